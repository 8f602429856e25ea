use Rattle.std.proofs.Common.{◌≡◌, ◌++◌}
use Rattle.schedule_picture.specs.Drawn.{drawing_of}
use Rattle.schedule_picture.specs.Picture.{task_lanes}
use Rattle.schedule_picture.proofs.text.push_tasks.Given as goal

abbrev pub invariant-loop-task : goal.invariant-loop-task
invariant-loop-task l = l.text.items ≡ l.fn.text.items ++ task_lanes (drawing_of l.drawn) l.task
