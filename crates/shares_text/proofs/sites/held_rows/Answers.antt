use Rattle.std.proofs.Common.{ℕ, ◌<◌, List, length, ap, sym, subst, ◌∙◌, add-one, arith}
use Rattle.sloth_base.specs.declared.app.Item.{Item}
use Rattle.sloth_base.specs.Named.{item_of}
use Rattle.code_rules.specs.Code.{held_list_fallen_into, held_after, held_list_at}
use Rattle.task_verify.specs.Labels.{last_label_below, list_of}
use Rattle.task_verify.proofs.Labelled.{last_inside, held_is}
use Rattle.task_verify.proofs.Lists.{item_is}
use Rattle.call_graph.proofs.Growing.{held_more}
use Rattle.shares_text.specs.declared.sites.Held.{Held}
use Rattle.shares_text.specs.Sites.{no_held, IsHeld}
use Rattle.shares_text.proofs.sites.held_rows.Goals as goal

pub held_at_label-requires : goal.held_at_label-requires
held_at_label-requires c =
    let f = c.args.func.now in
    let i = c.loop-number.number in
    let inside = subst (λ (x : List Item). i < length x) c.items-number-end.ensures c.loop-number-test.true in
    λ k e. last_inside f.labels i (length f.labels) k (sym (c.requires.lasts i (omega (arith, inside))) ∙ e)

pub loop-number-preserved : goal.loop-number-preserved
loop-number-preserved c =
    let f = c.args.func.now in
    let i = c.loop-number.number in
    let inside = subst (λ (x : List Item). i < length x) c.items-number-end.ensures c.loop-number-test.true in
    let last = last_label_below f.labels i (length f.labels) in
    let held = c.loop-number.held.items in
    let entered = c.in_ok-entered.entered.items in
    let held_now = c.in_ok-entered.ensures ∙ ap (λ o. list_of f.labels o held) (c.requires.lasts i (omega (arith, inside)))
    ∙ ap (λ h. list_of f.labels last h) c.loop-number.invariant.held ∙ sym (held_is f i) in
    let o = (item_of f i).op in
    let same = item_is f c.items.result.now i c.index-items-number.result c.items.ensures inside c.index-items-number.is in
    let g =
    held_more Held (λ n h. IsHeld c.args.config.now (held_list_at f n) h) c.loop-number.rows.items c.push.new.list.items c.listed_held.result no_held i
    c.loop-number.invariant.count c.loop-number.invariant.each c.in_ok-push.ensures
    (subst (λ (h : List ℕ). IsHeld c.args.config.now h c.listed_held.result) (c.deref.ensures.value ∙ held_now) c.listed_held.ensures) in
    record {
      count = g.count;
      held = c.in_ok-held.ensures ∙ ap (λ (y : Item). held_after y.op entered) (sym c.index-items-number.is) ∙ ap (λ (y : Item). held_after y.op entered) same ∙ ap (λ h. held_after o h) held_now ∙ ap (held_list_fallen_into f) (sym (add-one i));
      each = g.each;
    }
