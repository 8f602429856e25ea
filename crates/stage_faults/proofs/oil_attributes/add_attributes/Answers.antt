use Rattle.std.proofs.Common.{◌≡◌, ◌∙◌, Bool, Option, None, List, ap, sym, subst, take, length, refl, arith}
use Rattle.std.proofs.lemmas.List.Sums.{fold_more}
use Rattle.sloth_base.specs.declared.refusal.Part.TheVariants.{Oil}
use Rattle.oil_parse.specs.declared.tree.OilAttr.{OilAttr}
use Rattle.oil_table.specs.declared.table.Attribute.{Attribute}
use Rattle.oil_table.specs.declared.table.Place.TheVariants.{Nowhere}
use Rattle.oil_table.specs.Table.{attribute_of}
use Rattle.oil_rules.specs.AttributeFaults.{opened_place, place_by}
use Rattle.stage_faults.specs.Told.{Adds}
use Rattle.stage_faults.specs.ToldModel.{Opened, row_by, is_at_fault, fault_behind, opened_more, opened_by, ToldRow, ToldOpened, ToldAttribute}
use Rattle.stage_faults.proofs.Telling.{adds_nowhere, adds_more, adds_end}
use Rattle.stage_faults.proofs.oil_attributes.add_attributes.Goals as goal

pub loop-number-init : goal.loop-number-init
loop-number-init c = record {
  told = adds_nowhere Oil (ToldAttribute c.args.tables.now.objects.now c.args.tables.now.scheduler c.args.limits c.args.place) c.args.notes.now.items;
  opens = refl;
  depth = c.new-before.ensures.depth;
  behind = c.new-before.ensures.attrs;
}

pub loop-number-preserved : goal.loop-number-preserved
loop-number-preserved c =
    let attrs = c.args.attrs.now in
    let objects = c.args.tables.now.objects.now in
    let scheduler = c.args.tables.now.scheduler in
    let limits = c.args.limits in
    let place = c.args.place in
    let x = c.index-attrs-number.result in
    let i = c.loop-number.number in
    let k = c.loop-number.invariant in
    let front = take i attrs in
    let inner = c.loop-number.inner in
    let fault = c.loop-number.fault in
    let here : Opened = record { inner = inner; fault = fault } in
    let a = c.loop-number.notes.items in
    let b = c.add_row_faults.new.notes.items in
    let row : c.attribute_of-row.result ≡ row_by place inner x =
    c.attribute_of-row.ensures ∙ ap (attribute_of c.place_by.result) c.bytes.ensures ∙ ap (λ p. attribute_of p x.name) c.place_by.ensures in
    let one = subst (λ (r : Option Attribute). Adds Oil (ToldRow objects scheduler r c.is_inside-follows.result c.loop-number.before.attrs x) a b) row c.in_ok-add_row_faults.ensures in
    let two = subst (λ (t : Bool). Adds Oil (ToldRow objects scheduler (row_by place inner x) t c.loop-number.before.attrs x) a b) c.is_inside-follows.ensures one in
    let three = subst (λ (xs : List OilAttr). Adds Oil (ToldOpened objects scheduler place here xs x) a b) k.behind two in
    let found = subst (λ (o : Opened). Adds Oil (ToldOpened objects scheduler place o front x) a b) (sym k.opens) three in
    let at_fault : c.is_at_fault-at_fault.result ≡ is_at_fault objects scheduler limits (row_by place inner x) x =
    c.is_at_fault-at_fault.ensures ∙ ap (λ r. is_at_fault objects scheduler limits r x) row in
    let next_fault = c.fault_behind-fault.ensures ∙ ap (λ t. fault_behind fault t x) at_fault in
    record {
      told = adds_more Oil (ToldAttribute objects scheduler limits place) attrs i x c.args.notes.now.items a b c.loop-number-test.true c.index-attrs-number.is k.told found;
      opens = fold_more (opened_more objects scheduler limits place) (record { inner = Nowhere; fault = None }) attrs i x c.loop-number-test.true
          ∙ ap (opened_more objects scheduler limits place (opened_by objects scheduler limits place front)) (sym c.index-attrs-number.is)
          ∙ ap (λ (o : Opened). opened_more objects scheduler limits place o x) k.opens
          ∙ sym (ap (λ p. let o : Opened = record { inner = p; fault = c.fault_behind-fault.result } in o) c.opened-inner.ensures
          ∙ ap (λ f. let o : Opened = record { inner = opened_place place inner x; fault = f } in o) next_fault);
      depth = c.in_ok-before.ensures.depth ∙ k.depth;
      behind = c.in_ok-before.ensures.attrs;
    }

pub returns : goal.returns
returns c =
    let xs = c.args.attrs.now in
    let e : c.loop-number.number ≡ length xs = omega arith in
    adds_end Oil (ToldAttribute c.args.tables.now.objects.now c.args.tables.now.scheduler c.args.limits c.args.place) xs c.loop-number.number c.args.notes.now.items c.loop-number.notes.items e c.loop-number.invariant.told
