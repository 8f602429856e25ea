use Rattle.std.proofs.Common.{◌≡◌, ◌++◌}
use Rattle.schedule_picture.specs.Marks.{tasks_marks}
use Rattle.schedule_picture.proofs.marks.push_tasks_marks.Given as goal

abbrev pub invariant-loop-task : goal.invariant-loop-task
invariant-loop-task l = l.marks.items ≡ l.fn.marks.items ++ tasks_marks l.arrivals l.by l.before l.now l.task
