use Rattle.std.proofs.Common.{◌≡◌, ◌*◌, ◌≤◌}
use Rattle.call_graph.specs.Tables.{sum_below, bytes_under}
use Rattle.call_graph.proofs.stack_offsets.bytes_below.Given as goal

abbrev pub invariant-loop-number : goal.invariant-loop-number
invariant-loop-number l = record {
  sum : l.sum ≡ sum_below l.number (bytes_under l.tasks l.yielding l.bytes l.priority);
  small : l.sum ≤ 8704 * l.number;
}
