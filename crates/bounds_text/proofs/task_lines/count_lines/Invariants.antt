use Rattle.std.proofs.Common.{◌≡◌}
use Rattle.bounds_text.specs.LowerCounts.{count_lines}
use Rattle.bounds_text.proofs.task_lines.count_lines.Given as goal

abbrev pub invariant-loop-task : goal.invariant-loop-task
invariant-loop-task l = l.text.items ≡ count_lines l.tasks l.weight l.table l.task
