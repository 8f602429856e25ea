use Rattle.std.proofs.Common.{◌≡◌, ◌∙◌, List, ℕ, true, get_or, sym, ap, subst}
use Rattle.std.proofs.lemmas.List.{get_or_default}
use Rattle.sloth_base.specs.declared.app.Op.{Op}
use Rattle.sloth_base.specs.Named.{item_of}
use Rattle.code_rules.specs.Code.{held_after}
use Rattle.fault_witnesses.specs.CleanWays.{is_orderly}
use Rattle.holds_infer.specs.LabelWays.{HoldsOnWay}
use Rattle.holds_infer.proofs.LongerWays.{one_step, steps_more, held_next, whole_way}
use Rattle.holds_infer.proofs.other_ways.held_on_way.Goals as goal

pub loop-number-preserved : goal.loop-number-preserved
loop-number-preserved c =
    let f = c.args.func.now in
    let place = c.args.goal in
    let way = c.args.way.now in
    let n = c.loop-number.number in
    let item = get_or way n 0 in
    let held = c.loop-number.held.items in
    let ok = c.if-not-leads.false in
    let before = c.loop-number.invariant.held in
    let orderly : is_orderly held (item_of f item).op ≡ true = subst (λ (h : List ℕ). is_orderly h (item_of f item).op ≡ true) c.deref.ensures.value (c.leads.ensures.orderly ok) in
    record {
      held = c.in_ok-held.ensures ∙ ap (λ (o : Op). held_after o held) c.op.ensures ∙ ap (held_after (item_of f item).op) before
          ∙ sym (held_next f way n 0 c.loop-number-test.true);
      each = steps_more f place way n
          (one_step f place way n item c.way_place.result held (get_or_default way n 0 place c.loop-number-test.true) c.way_place.ensures before
          (c.leads.ensures.inside ok) orderly (c.leads.ensures.goes ok))
          c.loop-number.invariant.each;
    }

pub returns : goal.returns
returns c =
    let f = c.args.func.now in
    let place = c.args.goal in
    let way = c.args.way.now in
    subst (HoldsOnWay f place way) (sym c.from_vec.ensures)
    (whole_way f place way c.loop-number.held.items c.loop-number.number c.loop-number-test.false (c.starts.ensures c.if-not-starts.false)
    c.loop-number.invariant.held c.loop-number.invariant.each)
