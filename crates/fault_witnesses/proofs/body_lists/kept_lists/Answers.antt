use Rattle.std.proofs.Common.{◌<◌, List, length, ap, sym, subst, ◌∙◌, add-one, arith}
use Rattle.sloth_base.specs.declared.app.Item.{Item}
use Rattle.sloth_base.specs.Named.{item_of}
use Rattle.code_rules.specs.Code.{held_list_fallen_into, held_after}
use Rattle.task_verify.specs.Labels.{last_label_below, list_of}
use Rattle.task_verify.proofs.Labelled.{last_inside, held_is}
use Rattle.task_verify.proofs.Lists.{item_is}
use Rattle.call_graph.proofs.Growing.{held_more}
use Rattle.fault_witnesses.specs.declared.body_lists.KeptList.{KeptList}
use Rattle.fault_witnesses.specs.BodyLists.{no_list, IsKept}
use Rattle.fault_witnesses.proofs.Kept.{all_lists, kept_as}
use Rattle.fault_witnesses.proofs.body_lists.kept_lists.Goals as goal

pub held_at_label-requires : goal.held_at_label-requires
held_at_label-requires c =
    let f = c.args.func.now in
    let i = c.loop-number.number in
    let inside = subst (λ (x : List Item). i < length x) c.items-number-end.ensures c.loop-number-test.true in
    λ k e. last_inside f.labels i (length f.labels) k (sym (c.requires.lasts i (omega (arith, inside))) ∙ e)

pub loop-number-preserved : goal.loop-number-preserved
loop-number-preserved c =
    let f = c.args.func.now in
    let i = c.loop-number.number in
    let inside = subst (λ (x : List Item). i < length x) c.items-number-end.ensures c.loop-number-test.true in
    let last = last_label_below f.labels i (length f.labels) in
    let held = c.loop-number.held.items in
    let entered = c.in_ok-entered.entered.items in
    let held_now = c.in_ok-entered.ensures ∙ ap (λ o. list_of f.labels o held) (c.requires.lasts i (omega (arith, inside)))
    ∙ ap (λ h. list_of f.labels last h) c.loop-number.invariant.held ∙ sym (held_is f i) in
    let o = (item_of f i).op in
    let same = item_is f c.items.result.now i c.index-items-number.result c.items.ensures inside c.index-items-number.is in
    let g =
    held_more KeptList (IsKept f) c.loop-number.rows.items c.push.new.list.items c.in_ok-row.row no_list i
    c.loop-number.invariant.count c.loop-number.invariant.each c.in_ok-push.ensures
    (kept_as f i c.in_ok-row.row entered held_now (λ t. c.in_ok-row.ensures t ∙ c.deref.ensures.value)) in
    record {
      count = g.count;
      held = c.in_ok-held.ensures ∙ ap (λ (y : Item). held_after y.op entered) (sym c.index-items-number.is) ∙ ap (λ (y : Item). held_after y.op entered) same ∙ ap (λ h. held_after o h) held_now ∙ ap (held_list_fallen_into f) (sym (add-one i));
      each = g.each;
    }

pub returns : goal.returns
returns c = all_lists c.args.func.now c.loop-number.rows.items c.loop-number.number c.loop-number.invariant.count c.loop-number.invariant.each
