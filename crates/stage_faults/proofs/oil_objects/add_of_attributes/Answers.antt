use Rattle.std.proofs.Common.{◌≡◌, ◌∙◌, ap, sym, subst, take, length, ◌+◌, refl, arith}
use Rattle.std.specs.Prelude.{◌||◌, codes}
use Rattle.std.proofs.lemmas.List.Folds.{list_any_more}
use Rattle.sloth_base.specs.declared.refusal.Part.TheVariants.{Oil}
use Rattle.oil_parse.specs.declared.tree.OilAttr.{OilAttr}
use Rattle.oil_table.specs.Objects.{is_use, is_used}
use Rattle.oil_rules.specs.References.{ReferenceContext}
use Rattle.oil_rules.specs.TaskFaults.{TaskFault}
use Rattle.stage_faults.specs.Told.{Adds}
use Rattle.stage_faults.proofs.Telling.{adds_nowhere, adds_more, adds_end}
use Rattle.stage_faults.proofs.oil_objects.add_of_attributes.Goals as goal

pub loop-number-init : goal.loop-number-init
loop-number-init c = record {
  told = adds_nowhere Oil (TaskFault c.args.events.now c.args.front.now) c.args.notes.now.items;
  is_given = refl;
  behind = c.new-before.ensures;
}

pub loop-number-preserved : goal.loop-number-preserved
loop-number-preserved c =
    let attrs = c.args.attrs.now in
    let events = c.args.events.now in
    let front = c.args.front.now in
    let x = c.index-attrs-number.result in
    let i = c.loop-number.number in
    let k = c.loop-number.invariant in
    let a = c.loop-number.notes.items in
    let b = c.add_task_faults.new.notes.items in
    record {
      told = adds_more Oil (TaskFault events front) attrs i x c.args.notes.now.items a b c.loop-number-test.true c.index-attrs-number.is k.told
          (subst (λ (r : ReferenceContext). Adds Oil (TaskFault r.events front r.attrs x) a b) k.behind c.in_ok-add_task_faults.ensures);
      is_given = c.is_given_with-given.ensures ∙ ap (λ b. b || is_use (codes "PRIORITY") x) k.is_given
          ∙ ap (λ (y : OilAttr). is_used (take i attrs) (codes "PRIORITY") || is_use (codes "PRIORITY") y) c.index-attrs-number.is
          ∙ sym (list_any_more (is_use (codes "PRIORITY")) attrs i x c.loop-number-test.true);
      behind = c.in_ok-before.ensures ∙ ap (λ (r : ReferenceContext). let s : ReferenceContext = record { events = r.events; attrs = take (i + 1) attrs } in s) k.behind;
    }

pub returns : goal.returns
returns c =
    let xs = c.args.attrs.now in
    let e : c.loop-number.number ≡ length xs = omega arith in
    adds_end Oil (TaskFault c.args.events.now c.args.front.now) xs c.loop-number.number c.args.notes.now.items c.loop-number.notes.items e c.loop-number.invariant.told
