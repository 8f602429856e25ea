use Rattle.std.proofs.Common.{◌≡◌, ◌∙◌, List, ℕ, true, None, get_or, sym, ap, subst}
use Rattle.sloth_base.specs.declared.app.Op.{Op}
use Rattle.code_rules.specs.Code.{held_after}
use Rattle.fault_witnesses.specs.CleanWays.{is_orderly}
use Rattle.holds_infer.specs.WayLists.{AreHeldBehind, IsWayList}
use Rattle.holds_infer.specs.Places.{list_at}
use Rattle.holds_infer.proofs.LongerWays.{behind_item}
use Rattle.holds_infer.proofs.Spreading.{listed}
use Rattle.holds_infer.proofs.body_ways.held_behind.Goals as goal

pub returns : goal.returns
returns c =
    let f = c.args.func.now in
    let lists = c.args.lists.now in
    let i = c.args.item in
    let held = c.in_ok-held.held.items in
    let way = subst (IsWayList f i) (sym (c.in_ok-held.ensures ∙ c.place_list.ensures))
    (c.requires.lists i (list_at lists i) (listed (get_or lists i None) (sym c.has_list.ensures ∙ c.if-not-has_list.false))) in
    subst (AreHeldBehind f i) (sym (c.from_vec.ensures ∙ c.in_ok-behind.ensures ∙ ap (λ (o : Op). held_after o held) c.op-op.ensures))
    (behind_item f i held c.requires.inside way
    (subst (λ (o : Op). is_orderly held o ≡ true) c.op-op.ensures
    (subst (λ (h : List ℕ). is_orderly h c.op-op.result ≡ true) c.deref.ensures.value (sym c.is_orderly.ensures ∙ c.if-not-is_orderly.false))))
