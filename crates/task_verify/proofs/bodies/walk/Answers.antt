use Rattle.std.proofs.Common.{ℕ, ◌<◌, ◌≤◌, List, length, ap, sym, subst, ◌∙◌, add-one, arith}
use Rattle.sloth_base.specs.declared.app.Item.{Item}
use Rattle.sloth_base.specs.Search.{IsSearchResult}
use Rattle.sloth_base.proofs.Kept.{both_are}
use Rattle.sloth_base.specs.Named.{item_of}
use Rattle.code_rules.specs.Code.{held_list_fallen_into, held_after}
use Rattle.code_rules.proofs.Judged.{Below, judged_more, judged_end}
use Rattle.task_verify.specs.Labels.{last_label_below, list_of}
use Rattle.task_verify.specs.Cases.{FallFault, HeldFault, HeldFaultAt, PlaceFault}
use Rattle.task_verify.proofs.Labelled.{last_inside, held_is}
use Rattle.task_verify.proofs.Lists.{item_is}
use Rattle.task_verify.proofs.bodies.walk.Goals as goal

pub held_at_label-requires : goal.held_at_label-requires
held_at_label-requires c =
    let f = c.args.func.now in
    let i = c.loop-number.number in
    let inside = subst (λ (x : List Item). i < length x) c.items-number-end.ensures c.loop-number-test.true in
    λ k e. last_inside f.labels i (length f.labels) k (sym (c.requires.tables.lasts i (omega (arith, inside))) ∙ e)

pub loop-number-preserved : goal.loop-number-preserved
loop-number-preserved c =
    let app = c.args.app.now in
    let f = c.args.func.now in
    let i = c.loop-number.number in
    let inside = subst (λ (x : List Item). i < length x) c.items-number-end.ensures c.loop-number-test.true in
    let last = last_label_below f.labels i (length f.labels) in
    let held = c.loop-number.held.items in
    let entered = c.in_ok-entered.entered.items in
    let held_now = c.in_ok-entered.ensures ∙ ap (λ o. list_of f.labels o held) (c.requires.tables.lasts i (omega (arith, inside)))
    ∙ ap (λ h. list_of f.labels last h) c.loop-number.invariant.held ∙ sym (held_is f i) in
    let line = (item_of f i).line in
    let o = (item_of f i).op in
    let found = c.held_fault-here.result in
    let here = subst (λ (h : List ℕ). IsSearchResult (HeldFault app f h line o) found) (c.deref-in-loop-number.ensures.value ∙ held_now) c.held_fault-here.ensures in
    let same = item_is f c.items.result.now i c.index-items-number.result c.items.ensures inside c.index-items-number.is in
    record {
      finds = judged_more (PlaceFault app f) (length f.items) i c.loop-number.least c.merge.result c.merge-least.result inside
          (both_are (FallFault f i) (HeldFaultAt app f i) c.fall_fault-falling.result found c.merge.result c.fall_fault-falling.ensures here c.merge.ensures)
          c.merge-least.ensures c.loop-number.invariant.finds;
      held = c.in_ok-held.ensures ∙ ap (λ (y : Item). held_after y.op entered) same ∙ ap (λ h. held_after o h) held_now ∙ ap (held_list_fallen_into f) (sym (add-one i));
    }

pub returns : goal.returns
returns c =
    let app = c.args.app.now in
    let f = c.args.func.now in
    let i = c.loop-number.number in
    let end = subst (λ (x : List Item). length x ≤ i) c.items-number-end.ensures c.loop-number-test.false in
    both_are (Below (PlaceFault app f) (length f.items)) (FallFault f (length f.items)) c.loop-number.least c.fall_fault.result c.merge-2.result
    (judged_end (PlaceFault app f) (length f.items) i c.loop-number.least end c.loop-number.invariant.finds)
    (subst (λ (x : List Item). IsSearchResult (FallFault f (length x)) c.fall_fault.result) c.items-count.ensures c.fall_fault.ensures)
    c.merge-2.ensures
