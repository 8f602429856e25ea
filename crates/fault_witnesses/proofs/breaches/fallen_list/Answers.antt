use Rattle.std.proofs.Common.{◌<◌, length, ap, sym, ◌∙◌, add-one, arith}
use Rattle.sloth_base.specs.declared.app.Item.{Item}
use Rattle.sloth_base.specs.Named.{item_of}
use Rattle.code_rules.specs.Code.{held_list_fallen_into, held_after}
use Rattle.task_verify.specs.Labels.{last_label_below, list_of}
use Rattle.task_verify.proofs.Labelled.{last_inside, held_is}
use Rattle.task_verify.proofs.Lists.{item_is}
use Rattle.fault_witnesses.proofs.breaches.fallen_list.Goals as goal

pub held_at_label-requires : goal.held_at_label-requires
held_at_label-requires c =
    let f = c.args.func.now in
    let i = c.loop-number.number in
    let inside = c.loop-number-test.true in
    let limit = c.requires.inside in
    λ k e. last_inside f.labels i (length f.labels) k (sym (c.requires.lasts i (omega (arith, inside, limit))) ∙ e)

pub loop-number-preserved : goal.loop-number-preserved
loop-number-preserved c =
    let f = c.args.func.now in
    let i = c.loop-number.number in
    let below = c.loop-number-test.true in
    let limit = c.requires.inside in
    let inside : i < length f.items = omega (arith, below, limit) in
    let last = last_label_below f.labels i (length f.labels) in
    let held = c.loop-number.held.items in
    let entered = c.in_ok-entered.entered.items in
    let held_now = c.in_ok-entered.ensures ∙ ap (λ o. list_of f.labels o held) (c.requires.lasts i (omega (arith, inside)))
    ∙ ap (λ h. list_of f.labels last h) c.loop-number.invariant ∙ sym (held_is f i) in
    let o = (item_of f i).op in
    let same = item_is f c.items.result.now i c.index-items-number.result c.items.ensures inside c.index-items-number.is in
    c.in_ok-held.ensures ∙ ap (λ (y : Item). held_after y.op entered) (sym c.index-items-number.is) ∙ ap (λ (y : Item). held_after y.op entered) same ∙ ap (λ h. held_after o h) held_now ∙ ap (held_list_fallen_into f) (sym (add-one i))
