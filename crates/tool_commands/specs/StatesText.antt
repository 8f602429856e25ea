-- What is printed of the tasks' states at a count of a run.
use Rattle.std.specs.Prelude.{ℕ, zero, suc, List, [], ◌++◌, codes, decimal, get_or, length}
use Rattle.sloth_base.specs.declared.image.Image.{Image}
use Rattle.osek_scheduler.specs.declared.state.TaskState.{TaskState}
use Rattle.osek_scheduler.specs.declared.state.TaskState.TheVariants as mode
use Rattle.sloth_runner.specs.declared.task_states.Seen.{Seen}

-- the word of a state, and the events that a task waits for
abbrev pub state_text : TaskState → List ℕ
state_text mode.Suspended = codes "suspended"
state_text mode.Ready = codes "ready"
state_text mode.Active = codes "active"
state_text (mode.Waiting mask) = codes "waiting " ++ decimal mask

-- the line of a task, whose state stands in its place
unfoldable pub task_line : Image → List TaskState → ℕ → List ℕ
task_line image states task = get_or image.tasks task [] ++ codes " " ++ state_text (get_or states task mode.Suspended) ++ codes "\n"

-- the lines of the first tasks, so many of them
unfoldable pub task_lines : Image → List TaskState → ℕ → List ℕ
task_lines image states zero = []
task_lines image states (suc k) = task_lines image states k ++ task_line image states k

-- the line of a count
unfoldable pub count_line : ℕ → List ℕ
count_line count = codes "count " ++ decimal count ++ codes "\n"

-- the count, and a line for each task
abbrev pub states_text : Image → Seen → List ℕ
states_text image seen = count_line seen.count ++ task_lines image seen.tasks (length image.tasks)
