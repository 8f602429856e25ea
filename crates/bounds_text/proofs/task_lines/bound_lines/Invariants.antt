use Rattle.std.proofs.Common.{◌≡◌}
use Rattle.bounds_text.specs.BoundsText.{bound_lines}
use Rattle.bounds_text.proofs.task_lines.bound_lines.Given as goal

abbrev pub invariant-loop-task : goal.invariant-loop-task
invariant-loop-task l = l.text.items ≡ bound_lines l.tasks l.bounds l.task
