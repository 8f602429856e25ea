use Rattle.std.proofs.Common.{◌≡◌}
use Rattle.call_graph.specs.Tables.{max_below, bytes_with_lower}
use Rattle.stack_bounds.proofs.calls.most_stacked.Given as goal

abbrev pub invariant-loop-number : goal.invariant-loop-number
invariant-loop-number l = l.most ≡ max_below l.number (bytes_with_lower l.tasks l.yielding l.bytes)
