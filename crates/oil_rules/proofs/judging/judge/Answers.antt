use Rattle.std.proofs.Common.{◌∙◌, ◌⊎◌, Bool, ap, sym, List, subst, not}
use Rattle.std.specs.Prelude.{map}
use Rattle.sloth_base.specs.declared.config.EventDecl.{EventDecl}
use Rattle.sloth_base.specs.declared.refusal.Code.TheVariants.{O11}
use Rattle.sloth_base.specs.declared.refusal.Part.TheVariants.{Oil}
use Rattle.sloth_base.specs.Search.{IsSearchResult, Somewhere}
use Rattle.sloth_base.proofs.Cases.{case_found}
use Rattle.sloth_base.proofs.Kept.{both_are}
use Rattle.oil_parse.specs.declared.tree.OilObject.{OilObject}
use Rattle.oil_table.specs.Cases.{OilCase}
use Rattle.oil_table.specs.Objects.{has_scheduler}
use Rattle.oil_table.specs.Events.{number_masks, events_of, BitFault}
use Rattle.oil_rules.specs.TreeFaults.{ObjectFault, TreeFault, lacks_os}
use Rattle.oil_rules.specs.AlarmFaults.{AlarmFault}
use Rattle.oil_rules.proofs.RangeEvents.{event_names}
use Rattle.oil_rules.proofs.judging.judge.Goals as goal

pub returns : goal.returns
returns c =
    let tree = c.args.tree.now in
    let objects = tree.objects in
    let e = c.items-objects.ensures in
    let table = c.in_ok-table.ensures ∙ e in
    let found = c.in_ok-of_objects.of_objects in
    let alarms = c.in_ok-of_alarms.of_alarms in
    let of_objects = subst (λ (x : List EventDecl). IsSearchResult (Somewhere (ObjectFault objects (has_scheduler objects) x) objects) found) (c.new-events.ensures ∙ c.requires.events)
    (subst (λ (b : Bool). IsSearchResult (Somewhere (ObjectFault objects b c.new-events.result) objects) found) c.requires.scheduler
    (subst (λ (x : List OilObject). IsSearchResult (Somewhere (ObjectFault x c.args.scheduler c.new-events.result) objects) found) table
    (subst (λ (x : List OilObject). IsSearchResult (Somewhere (ObjectFault c.in_ok-table.table c.args.scheduler c.new-events.result) x) found) e c.in_ok-of_objects.ensures))) in
    let bits = subst (λ (x : List OilObject). IsSearchResult (Somewhere (BitFault x) x) c.events_without_bit.result) e c.events_without_bit.ensures in
    let without = case_found Oil (lacks_os objects) (not c.has_os.result) tree.cpu_line O11 c.fault_if-without_os.result c.fault_if-without_os.ensures (ap not c.has_os.ensures ∙ ap lacks_os table) in
    let of_tree = both_are (Somewhere (ObjectFault objects (has_scheduler objects) (events_of objects)) objects)
    (λ r. Somewhere (BitFault objects) objects r ⊎ OilCase (lacks_os objects) tree.cpu_line O11 r) found c.merge.result c.merge-of_tree.result of_objects
    (both_are (Somewhere (BitFault objects) objects) (OilCase (lacks_os objects) tree.cpu_line O11) c.events_without_bit.result c.fault_if-without_os.result c.merge.result bits without c.merge.ensures)
    c.merge-of_tree.ensures in
    both_are (TreeFault tree) (Somewhere (AlarmFault objects) objects) c.merge-of_tree.result alarms c.merge-2.result of_tree
    (subst (λ (x : List OilObject). IsSearchResult (Somewhere (AlarmFault x) x) alarms) e c.in_ok-of_alarms.ensures) c.merge-2.ensures

pub new-events-requires : goal.new-events-requires
new-events-requires c =
    c.requires.event_numbers ∙ sym (event_names (number_masks c.args.tree.now.objects) c.args.tree.now.objects)
    ∙ ap (λ (x : List EventDecl). map (λ (e : EventDecl). e.name) x) (sym c.requires.events)
