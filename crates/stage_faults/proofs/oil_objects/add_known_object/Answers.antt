use Rattle.std.proofs.Common.{◌≡◌, ◌∙◌, ◌⊎◌, ap, sym, subst, not, true, false, List}
use Rattle.std.proofs.lemmas.Result.{on_ok_weaker}
use Rattle.sloth_base.specs.declared.refusal.Part.TheVariants.{Oil}
use Rattle.sloth_base.specs.Search.{Somewhere}
use Rattle.oil_parse.specs.declared.tree.OilAttr.{OilAttr}
use Rattle.oil_parse.specs.declared.tree.OilObject.{OilObject}
use Rattle.oil_table.specs.declared.counter_limits.Limits.{Limits}
use Rattle.oil_table.specs.declared.table.Place.{Place}
use Rattle.oil_table.specs.Table.{place_of, is_nowhere}
use Rattle.oil_rules.specs.ObjectFaults.{is_known}
use Rattle.oil_rules.specs.TreeFaults.{TaskFaults}
use Rattle.oil_table.specs.AlarmCounters.{limits_of}
use Rattle.stage_faults.specs.Told.{Adds}
use Rattle.stage_faults.specs.ToldModel.{ToldInner, ToldKnown, ToldAttribute}
use Rattle.stage_faults.proofs.Guarded.{adds_guarded, adds_unguarded}
use Rattle.stage_faults.proofs.Telling.{adds_both}
use Rattle.stage_faults.proofs.oil_objects.add_known_object.Goals as goal

pub returns-then-is_nowhere : goal.returns-then-is_nowhere
returns-then-is_nowhere c =
    let o = c.args.object.now in
    let tables = c.args.tables.now in
    let strange : is_known o ≡ false = ap not (sym (c.is_nowhere.ensures ∙ ap is_nowhere (c.place_of-place.ensures ∙ ap place_of c.bytes.ensures)) ∙ c.if-is_nowhere.true) in
    adds_unguarded Oil (ToldInner tables.objects.now tables.scheduler tables.events.now c.args.front.now o) (is_known o) c.args.notes.now.items strange

pub returns : goal.returns
returns c =
    let o = c.args.object.now in
    let objects = c.args.tables.now.objects.now in
    let scheduler = c.args.tables.now.scheduler in
    let front = c.args.front.now in
    let events = c.args.tables.now.events.now in
    let a = c.args.notes.now.items in
    let b = c.add_known.new.notes.items in
    let d = c.add_attributes.new.notes.items in
    let e = c.add_of_task.new.notes.items in
    let known : is_known o ≡ true = ap not (sym (c.is_nowhere.ensures ∙ ap is_nowhere (c.place_of-place.ensures ∙ ap place_of c.bytes.ensures)) ∙ c.if-is_nowhere.false) in
    let own = c.items-attrs.ensures in
    let place = c.place_of-place.ensures ∙ ap place_of c.bytes.ensures in
    let limits = c.limits_of-limits.ensures ∙ ap (λ (x : List OilObject). limits_of x c.items-attrs.result.now) c.requires ∙ ap (limits_of objects) own in
    let Own = Somewhere (ToldAttribute objects scheduler (limits_of objects o.attrs) (place_of o.kind)) o.attrs in
    let attributes = subst (λ (xs : List OilAttr). Adds Oil (Somewhere (ToldAttribute objects scheduler (limits_of objects o.attrs) (place_of o.kind)) xs) b d) own
    (subst (λ (l : Limits). Adds Oil (Somewhere (ToldAttribute objects scheduler l (place_of o.kind)) c.items-attrs.result.now) b d) limits
    (subst (λ (p : Place). Adds Oil (Somewhere (ToldAttribute objects scheduler c.limits_of-limits.result p) c.items-attrs.result.now) b d) place c.in_ok-add_attributes.ensures)) in
    on_ok_weaker c.add_of_task.result
    (λ told.
    adds_guarded Oil (ToldInner objects scheduler events front o) (is_known o) a e known
    (adds_both Oil (ToldKnown scheduler front o) (λ r. Own r ⊎ TaskFaults events front o r) a b e c.in_ok-add_known.ensures
    (adds_both Oil Own (TaskFaults events front o) b d e attributes told)))
    c.add_of_task.ensures
