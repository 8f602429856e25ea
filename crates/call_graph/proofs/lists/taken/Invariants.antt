use Rattle.std.proofs.Common.{◌≡◌, ℕ, take}
use Rattle.std.specs.List.{list_any}
use Rattle.call_graph.specs.Bits.{is_member}
use Rattle.call_graph.specs.Rows.{is_taking}
use Rattle.call_graph.proofs.lists.taken.Given as goal

abbrev pub invariant-loop-item : goal.invariant-loop-item
invariant-loop-item l = (r : ℕ) → is_member l.resources r ≡ list_any (λ item. is_taking r item.op) (take l.item-index l.items)
