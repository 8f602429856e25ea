use Rattle.std.proofs.Common.{◌∙◌, List, sym, subst}
use Rattle.sloth_base.specs.declared.refusal.Part.TheVariants.{Oil}
use Rattle.sloth_base.specs.Search.{Somewhere}
use Rattle.oil_parse.specs.declared.tree.OilObject.{OilObject}
use Rattle.oil_rules.specs.AlarmFaults.{AlarmFault}
use Rattle.stage_faults.specs.Told.{Adds}
use Rattle.stage_faults.specs.ToldModel.{ToldTree, ToldModel}
use Rattle.stage_faults.proofs.Telling.{adds_both, all_made}
use Rattle.stage_faults.proofs.oil_objects.tabled_notes.Goals as goal

pub add_tree-requires-clause-counters : goal.add_tree-requires-clause-counters
add_tree-requires-clause-counters c = c.requires.counters ∙ sym c.requires.objects

pub add_alarms-requires : goal.add_alarms-requires
add_alarms-requires c = c.requires.counters ∙ sym c.requires.tasks

pub returns : goal.returns
returns c =
    let tree = c.args.tree.now in
    let start = c.new-notes.result.items in
    let a = c.add_tree.new.notes.items in
    let b = c.add_alarms.new.notes.items in
    let alarms = subst (λ (x : List OilObject). Adds Oil (Somewhere (AlarmFault tree.objects) x) a b) c.items.ensures
    (subst (λ (x : List OilObject). Adds Oil (Somewhere (AlarmFault x) c.items.result.now) a b) c.requires.tasks c.in_ok-add_alarms.ensures) in
    all_made Oil (ToldModel tree) start b c.new-notes.ensures.items
    (adds_both Oil (ToldTree tree) (Somewhere (AlarmFault tree.objects) tree.objects) start a b c.in_ok-add_tree.ensures alarms)
