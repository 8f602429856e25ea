use Rattle.std.proofs.Common.{ap, sym, ◌∙◌}
use Rattle.std.proofs.lemmas.List.Folds.{list_any_at}
use Rattle.call_graph.specs.Rows.{is_call}
use Rattle.call_graph.proofs.Sets.{has_none}
use Rattle.call_graph.proofs.lists.called.Goals as goal

pub loop-item-init : goal.loop-item-init
loop-item-init c = has_none

pub with_call-calls-requires : goal.with_call-calls-requires
with_call-calls-requires c = λ g h.
    let x = c.item-item.result in
    c.requires g (list_any_at (λ item. is_call g item.op) c.args.items.now c.loop-item.item-index x c.loop-item-test.true (ap (λ item. is_call g item.op) (sym c.item-item.is) ∙ h))
