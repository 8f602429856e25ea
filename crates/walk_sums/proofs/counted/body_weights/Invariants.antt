use Rattle.std.proofs.Common.{◌≡◌, map, take}
use Rattle.walk_sums.specs.Weights.{item_weight}
use Rattle.walk_sums.proofs.counted.body_weights.Given as goal

abbrev pub invariant-loop-item : goal.invariant-loop-item
invariant-loop-item l = record {
  going : l.going.items ≡ map item_weight (take l.item-index l.item-items);
  ending : l.ending.items ≡ map item_weight (take l.item-index l.item-items);
}
