use Rattle.std.proofs.Common.{◌≡◌, ℕ, ◌<◌, length}
use Rattle.walk_sums.specs.Graph.{ways_of}
use Rattle.walk_sums.specs.Links.{item_ways}
use Rattle.walk_sums.proofs.bodies.body_ways.Given as goal

abbrev pub invariant-loop-from : goal.invariant-loop-from
invariant-loop-from l = record {
  count : length l.ways.items ≡ l.from;
  exact : (i : ℕ) → i < l.from → ways_of l.ways.items i ≡ item_ways l.func l.passed l.going l.open_items i;
}
