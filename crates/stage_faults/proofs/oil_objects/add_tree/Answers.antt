use Rattle.std.proofs.Common.{◌∙◌, Bool, ap, subst, not, List}
use Rattle.std.proofs.lemmas.Result.{on_ok_weaker}
use Rattle.sloth_base.specs.declared.config.EventDecl.{EventDecl}
use Rattle.sloth_base.specs.declared.refusal.Code.TheVariants.{O11}
use Rattle.sloth_base.specs.declared.refusal.Part.TheVariants.{Oil}
use Rattle.sloth_base.specs.Search.{Somewhere}
use Rattle.oil_parse.specs.declared.tree.OilObject.{OilObject}
use Rattle.oil_table.specs.Cases.{OilCase}
use Rattle.oil_table.specs.Objects.{has_scheduler}
use Rattle.oil_table.specs.Events.{events_of, BitFault}
use Rattle.oil_rules.specs.TreeFaults.{lacks_os}
use Rattle.stage_faults.specs.Told.{Adds}
use Rattle.stage_faults.specs.ToldModel.{ToldObject}
use Rattle.stage_faults.proofs.Telling.{case_is, adds_turned}
use Rattle.stage_faults.proofs.oil_objects.add_tree.Goals as goal

pub returns : goal.returns
returns c =
    let tree = c.args.tree.now in
    let objects = tree.objects in
    let own = c.items-objects.ensures in
    let a = c.args.notes.now.items in
    let b = c.add_events.new.notes.items in
    let d = c.add_objects.new.notes.items in
    let e = c.add_named.new.notes.items in
    let Objects = Somewhere (ToldObject objects (has_scheduler objects) (events_of objects)) objects in
    let Bits = Somewhere (BitFault objects) objects in
    let bits = subst (λ (x : List OilObject). Adds Oil (Somewhere (BitFault x) x) a b) own c.in_ok-add_events.ensures in
    let of_objects = subst (λ (x : List EventDecl). Adds Oil (Somewhere (ToldObject objects (has_scheduler objects) x) objects) b d) c.requires.events
    (subst (λ (t : Bool). Adds Oil (Somewhere (ToldObject objects t c.args.tables.now.events.now) objects) b d) c.requires.scheduler
    (subst (λ (x : List OilObject). Adds Oil (Somewhere (ToldObject x c.args.tables.now.scheduler c.args.tables.now.events.now) objects) b d) c.requires.objects
    (subst (λ (x : List OilObject). Adds Oil (Somewhere (ToldObject c.args.tables.now.objects.now c.args.tables.now.scheduler c.args.tables.now.events.now) x) b d) own c.in_ok-add_objects.ensures))) in
    let without = ap not c.has_os-lacking.ensures ∙ ap lacks_os c.requires.objects in
    on_ok_weaker c.add_named.result
    (λ told. adds_turned Oil Bits Objects (OilCase (lacks_os objects) tree.cpu_line O11) a b d e bits of_objects (case_is Oil (lacks_os objects) (not c.has_os-lacking.result) tree.cpu_line O11 d e without (told Oil)))
    c.add_named.ensures
