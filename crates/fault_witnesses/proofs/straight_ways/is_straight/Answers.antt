use Rattle.std.proofs.Common.{◌≡◌, ◌∙◌, ℕ, ◌+◌, ◌<◌, true, List, length, None, get_or, ap, sym, subst, arith}
use Rattle.sloth_base.specs.declared.app.Item.{Item}
use Rattle.sloth_base.specs.declared.app.Label.{Label}
use Rattle.sloth_base.specs.Named.{item_of, label_of}
use Rattle.code_rules.specs.Code.{held_after, held_list_at, is_followed}
use Rattle.task_verify.specs.Labels.{last_label_below}
use Rattle.task_verify.proofs.Lists.{item_is, label_is}
use Rattle.fault_witnesses.specs.CleanWays.{is_orderly}
use Rattle.fault_witnesses.proofs.Straight.{held_at_last, held_without, straight_step, none_of, straight_more}
use Rattle.fault_witnesses.proofs.straight_ways.is_straight.Goals as goal

pub loop-item-init : goal.loop-item-init
loop-item-init c =
    let f = c.args.func.now in
    let k = c.args.label in
    let same = label_is f c.items.result.now k c.index-items-label.result c.items.ensures c.requires.known c.index-items-label.is in
    let place = ap (λ (y : Label). y.item) same in
    record {
      held = c.in_ok-held.ensures ∙ c.items-2.ensures ∙ ap (λ (y : Label). y.holds) same ∙ sym (held_at_last f k c.requires.behind) ∙ ap (held_list_at f) (sym place);
      each = λ i ge l. absurd (omega (arith, ge, l, place));
    }

pub loop-item-preserved : goal.loop-item-preserved
loop-item-preserved c =
    let f = c.args.func.now in
    let i = c.loop-item.item in
    let below = c.loop-item-test.true in
    let limit = c.requires.inside in
    let inside : i < length f.items = omega (arith, below, limit) in
    let o = (item_of f i).op in
    let x = c.index-items-item.result in
    let same = item_is f c.items-in-loop-item.result.now i x c.items-in-loop-item.ensures inside c.index-items-item.is in
    let held = c.loop-item.held.items in
    let full = sym same ∙ c.index-items-item.is in
    let none : last_label_below f.labels (i + 1) (length f.labels) ≡ None =
    sym (c.requires.lasts (i + 1) (omega (arith, below, limit))) ∙ none_of (get_or c.args.last.now (i + 1) None) (sym c.is_some.ensures ∙ c.if-is_some.false) in
    let falls : is_followed o ≡ true = ap (λ (y : Item). is_followed y.op) full ∙ sym c.falls.ensures ∙ c.if-not-falls.false in
    let orderly : is_orderly (held_list_at f i) o ≡ true =
    subst (λ (h : List ℕ). is_orderly h o ≡ true) (c.deref.ensures.value ∙ c.loop-item.invariant.held)
    (ap (λ (y : Item). is_orderly c.deref.result.now y.op) full ∙ sym c.is_orderly.ensures ∙ c.if-not-is_orderly.false) in
    record {
      held = c.in_ok-held-2.ensures ∙ ap (λ (y : Item). held_after y.op held) (sym full) ∙ ap (held_after o) c.loop-item.invariant.held ∙ sym (held_without f i none);
      each = straight_more f (label_of f c.args.label).item i (straight_step f i falls (omega (arith, below, limit)) orderly none) c.loop-item.invariant.each;
    }
