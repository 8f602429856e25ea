use Rattle.std.proofs.Common.{◌≡◌, ℕ, ◌+◌, ◌<◌, length}
use Rattle.fault_witnesses.specs.CleanWays.{way_item}
use Rattle.fault_witnesses.proofs.straight_ways.items_between.Given as goal

abbrev pub invariant-loop-number : goal.invariant-loop-number
invariant-loop-number l = record {
  count : length l.way.items ≡ l.number;
  each : (n : ℕ) → n < l.number → way_item l.way.items n ≡ l.first + n;
}
