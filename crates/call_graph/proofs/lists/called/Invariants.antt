use Rattle.std.proofs.Common.{◌≡◌, ℕ, take}
use Rattle.std.specs.List.{list_any}
use Rattle.call_graph.specs.Bits.{is_member}
use Rattle.call_graph.specs.Rows.{is_call}
use Rattle.call_graph.proofs.lists.called.Given as goal

abbrev pub invariant-loop-item : goal.invariant-loop-item
invariant-loop-item l = (g : ℕ) → is_member l.calls g ≡ list_any (λ item. is_call g item.op) (take l.item-index l.items)
