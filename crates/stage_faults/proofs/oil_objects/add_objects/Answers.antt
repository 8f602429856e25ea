use Rattle.std.proofs.Common.{◌≡◌, true, take, subst, List, length, arith}
use Rattle.sloth_base.specs.declared.refusal.Part.TheVariants.{Oil}
use Rattle.oil_parse.specs.declared.tree.OilObject.{OilObject}
use Rattle.oil_rules.specs.ObjectFaults.{is_known, KindFault}
use Rattle.stage_faults.specs.Told.{Adds}
use Rattle.stage_faults.specs.ToldModel.{ToldInner, ToldObject}
use Rattle.stage_faults.proofs.Telling.{adds_both, adds_nowhere, adds_more, adds_end}
use Rattle.stage_faults.proofs.oil_objects.add_objects.Goals as goal

pub loop-number-init : goal.loop-number-init
loop-number-init c = record {
  told = adds_nowhere Oil (ToldObject c.args.tables.now.objects.now c.args.tables.now.scheduler c.args.tables.now.events.now) c.args.notes.now.items;
  behind = c.new-front.ensures;
}

pub loop-number-preserved : goal.loop-number-preserved
loop-number-preserved c =
    let objects = c.args.objects.now in
    let table = c.args.tables.now.objects.now in
    let events = c.args.tables.now.events.now in
    let scheduler = c.args.tables.now.scheduler in
    let x = c.index-objects-number.result in
    let i = c.loop-number.number in
    let k = c.loop-number.invariant in
    let a = c.loop-number.notes.items in
    let b = c.add_kind.new.notes.items in
    let d = c.add_known_object.new.notes.items in
    record {
      told = adds_more Oil (ToldObject table scheduler events) objects i x c.args.notes.now.items a d c.loop-number-test.true c.index-objects-number.is k.told
          (adds_both Oil (KindFault x) (λ r. (is_known x ≡ true) × ToldInner table scheduler events (take i objects) x r) a b d c.in_ok-add_kind.ensures
          (subst (λ (front : List OilObject). Adds Oil (λ r. (is_known x ≡ true) × ToldInner table scheduler events front x r) b d) k.behind c.in_ok-add_known_object.ensures));
      behind = c.in_ok-front.ensures;
    }

pub returns : goal.returns
returns c =
    let xs = c.args.objects.now in
    let e : c.loop-number.number ≡ length xs = omega arith in
    adds_end Oil (ToldObject c.args.tables.now.objects.now c.args.tables.now.scheduler c.args.tables.now.events.now) xs c.loop-number.number c.args.notes.now.items c.loop-number.notes.items e c.loop-number.invariant.told
