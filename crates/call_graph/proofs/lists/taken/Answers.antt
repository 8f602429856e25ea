use Rattle.std.proofs.Common.{ap, sym, ◌∙◌}
use Rattle.std.proofs.lemmas.List.Folds.{list_any_at}
use Rattle.call_graph.specs.Rows.{is_taking}
use Rattle.call_graph.proofs.Sets.{has_none}
use Rattle.call_graph.proofs.lists.taken.Goals as goal

pub loop-item-init : goal.loop-item-init
loop-item-init c = has_none

pub with_taken-resources-requires : goal.with_taken-resources-requires
with_taken-resources-requires c = λ r h.
    let x = c.item-item.result in
    c.requires r (list_any_at (λ item. is_taking r item.op) c.args.items.now c.loop-item.item-index x c.loop-item-test.true (ap (λ item. is_taking r item.op) (sym c.item-item.is) ∙ h))
