use Rattle.std.proofs.Common.{◌≡◌}
use Rattle.call_graph.specs.Bits.{is_member}
use Rattle.call_graph.specs.Reached.{any_below}
use Rattle.shares_text.proofs.uses.has_task.Given as goal

abbrev pub invariant-loop-task : goal.invariant-loop-task
invariant-loop-task l = l.found ≡ any_below l.task (λ t. is_member l.set t)
