-- The lines of the first tasks.
use Rattle.std.proofs.Common.{◌≡◌, ◌+◌, ℕ, List, [], ◌++◌, refl, ap}
use Rattle.std.proofs.Math.Numerals.{add-one}
use Rattle.sloth_base.specs.declared.image.Image.{Image}
use Rattle.osek_scheduler.specs.declared.state.TaskState.{TaskState}
use Rattle.tool_commands.specs.StatesText.{task_line, task_lines}

pub no-lines : (image : Image) (states : List TaskState) → task_lines image states 0 ≡ []
unfolding task_lines
no-lines image states = refl

pub one-line-more : (image : Image) (states : List TaskState) (k : ℕ) → task_lines image states (k + 1) ≡ task_lines image states k ++ task_line image states k
unfolding task_lines
one-line-more image states k = ap (task_lines image states) (add-one k)
