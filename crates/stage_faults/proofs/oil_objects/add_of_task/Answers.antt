use Rattle.std.proofs.Common.{◌≡◌, ◌∙◌, sym, subst, true, List}
use Rattle.std.specs.Prelude.{codes}
use Rattle.std.proofs.lemmas.Result.{on_ok_weaker}
use Rattle.sloth_base.specs.declared.refusal.Part.TheVariants.{Oil}
use Rattle.sloth_base.specs.Search.{Somewhere}
use Rattle.oil_parse.specs.declared.tree.OilAttr.{OilAttr}
use Rattle.oil_table.specs.Objects.{is_of_kind}
use Rattle.oil_rules.specs.TaskFaults.{TaskFault}
use Rattle.stage_faults.specs.Told.{Adds}
use Rattle.stage_faults.proofs.Guarded.{adds_guarded, adds_unguarded}
use Rattle.stage_faults.proofs.oil_objects.add_of_task.Goals as goal

pub returns-then-is_of_kind : goal.returns-then-is_of_kind
returns-then-is_of_kind c =
    let o = c.args.object.now in
    let P = TaskFault c.args.events.now c.args.front.now in
    let a = c.args.notes.now.items in
    let b = c.add_of_attributes.new.notes.items in
    let t : is_of_kind (codes "TASK") o ≡ true = sym c.is_of_kind.ensures ∙ c.if-is_of_kind.true in
    on_ok_weaker c.add_of_attributes.result
    (λ told. adds_guarded Oil (Somewhere P o.attrs) (is_of_kind (codes "TASK") o) a b t (subst (λ (xs : List OilAttr). Adds Oil (Somewhere P xs) a b) c.items.ensures told))
    c.add_of_attributes.ensures

pub returns : goal.returns
returns c =
    let o = c.args.object.now in
    adds_unguarded Oil (Somewhere (TaskFault c.args.events.now c.args.front.now) o.attrs) (is_of_kind (codes "TASK") o) c.args.notes.now.items (sym c.is_of_kind.ensures ∙ c.if-is_of_kind.false)
