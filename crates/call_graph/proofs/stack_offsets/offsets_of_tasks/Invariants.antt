use Rattle.std.proofs.Common.{◌≡◌, ℕ, ◌<◌, length, get_or}
use Rattle.call_graph.specs.Tables.{bytes_lower}
use Rattle.call_graph.proofs.stack_offsets.offsets_of_tasks.Given as goal

abbrev pub invariant-loop-number : goal.invariant-loop-number
invariant-loop-number l = record {
  count : length l.offsets.items ≡ l.number;
  each : (t : ℕ) → t < l.number → get_or l.offsets.items t 0 ≡ bytes_lower l.tasks l.yielding l.bytes t;
}
