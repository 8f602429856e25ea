use Rattle.std.proofs.Common.{◌≡◌, ◌∙◌, ◌⊎◌, ap, sym, subst, not, true, List}
use Rattle.sloth_base.specs.Search.{IsSearchResult, Somewhere}
use Rattle.sloth_base.proofs.Kept.{both_are, finds_if}
use Rattle.oil_parse.specs.declared.tree.OilAttr.{OilAttr}
use Rattle.oil_table.specs.declared.table.Place.{Place}
use Rattle.oil_table.specs.Table.{place_of, is_nowhere}
use Rattle.oil_rules.specs.ObjectFaults.{is_known, KnownFault}
use Rattle.oil_rules.specs.AttributeFaults.{AttributeFault}
use Rattle.oil_rules.specs.TreeFaults.{TaskFaults, KnownObjectFault}
use Rattle.oil_rules.proofs.judging.fault_of_known.Goals as goal

pub returns : goal.returns
returns c =
    let o = c.args.object.now in
    let objects = c.args.table.now in
    let scheduler = c.args.scheduler in
    let front = c.args.front.now in
    let events = c.args.events.now in
    let found = c.in_ok-attributes.attributes in
    let place = c.place_of-place.ensures ∙ ap place_of c.bytes.ensures in
    let known : is_known o ≡ true = ap not (sym (c.is_nowhere.ensures ∙ ap is_nowhere place) ∙ c.if-is_nowhere.false) in
    let attributes = subst (λ (x : List OilAttr). IsSearchResult (Somewhere (AttributeFault objects scheduler (place_of o.kind)) x) found) c.items.ensures
    (subst (λ (p : Place). IsSearchResult (Somewhere (AttributeFault objects scheduler p) c.items.result.now) found) place c.in_ok-attributes.ensures) in
    finds_if (KnownObjectFault objects scheduler events front o) (is_known o) c.merge-2.result
    (λ t. both_are (KnownFault scheduler front o) (λ r. Somewhere (AttributeFault objects scheduler (place_of o.kind)) o.attrs r ⊎ TaskFaults events front o r)
    c.known_fault-known.result c.merge.result c.merge-2.result c.known_fault-known.ensures
    (both_are (Somewhere (AttributeFault objects scheduler (place_of o.kind)) o.attrs) (TaskFaults events front o) found c.in_ok-of_task.of_task c.merge.result attributes c.in_ok-of_task.ensures
    c.merge.ensures)
    c.merge-2.ensures)
    (λ f. cc)
