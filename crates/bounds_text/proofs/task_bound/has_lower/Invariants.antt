use Rattle.std.proofs.Common.{◌≡◌}
use Rattle.call_graph.specs.Reached.{any_below}
use Rattle.bounds_text.specs.Bounds.{is_below}
use Rattle.bounds_text.proofs.task_bound.has_lower.Given as goal

abbrev pub invariant-loop-task : goal.invariant-loop-task
invariant-loop-task l = l.lower ≡ any_below l.task (is_below l.tasks l.priority)
