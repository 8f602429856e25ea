use Rattle.std.proofs.Common.{◌≡◌, map, take}
use Rattle.sloth_base.specs.declared.app.Item.{Item}
use Rattle.walk_sums.specs.Counted.{one_if, is_going_counted, is_ending_counted}
use Rattle.walk_sums.proofs.counted.body_counts.Given as goal

abbrev pub invariant-loop-item : goal.invariant-loop-item
invariant-loop-item l = record {
  going : l.going.items ≡ map (λ (item : Item). one_if (is_going_counted l.counted item.op)) (take l.item-index l.item-items);
  ending : l.ending.items ≡ map (λ (item : Item). one_if (is_ending_counted l.counted item.op)) (take l.item-index l.item-items);
}
