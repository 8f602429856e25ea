-- The faults of an OIL tree's meaning. The rest is judged where one thing has a fault: such an object still counts, for references and
-- for numbers.
use Rattle.std.specs.Prelude.{◌≡◌, Bool, true, ◌⊎◌, not, List, codes}
use Rattle.std.specs.List.{list_any}
use Rattle.sloth_base.specs.declared.config.EventDecl.{EventDecl}
use Rattle.sloth_base.specs.declared.refusal.Code.TheVariants.{O11}
use Rattle.sloth_base.specs.declared.refusal.Refusal.{Refusal}
use Rattle.sloth_base.specs.Search.{Somewhere}
use Rattle.oil_parse.specs.declared.tree.OilObject.{OilObject}
use Rattle.oil_parse.specs.declared.tree.OilTree.{OilTree}
use Rattle.oil_table.specs.Cases.{OilCase}
use Rattle.oil_table.specs.Table.{place_of}
use Rattle.oil_table.specs.Objects.{is_of_kind, has_scheduler}
use Rattle.oil_table.specs.Events.{events_of, BitFault}
use Rattle.oil_rules.specs.ObjectFaults.{is_known, KindFault, KnownFault}
use Rattle.oil_rules.specs.AttributeFaults.{AttributeFault}
use Rattle.oil_rules.specs.TaskFaults.{TaskFault}

-- O13 and O15 of the attributes of a task
abbrev pub TaskFaults : List EventDecl → List OilObject → OilObject → Refusal → Type 0
TaskFaults events front object r = (is_of_kind (codes "TASK") object ≡ true) × Somewhere (TaskFault events front) object.attrs r

-- the faults of an object of a kind, and of its attributes
abbrev pub KnownObjectFault : List OilObject → Bool → List EventDecl → List OilObject → OilObject → Refusal → Type 0
KnownObjectFault objects scheduler events front object r =
    KnownFault scheduler front object r
    ⊎ (Somewhere (AttributeFault objects scheduler (place_of object.kind)) object.attrs r
    ⊎ TaskFaults events front object r)

-- O7, and the other faults of an object of a kind, among all these objects and behind those before it
abbrev pub ObjectFault : List OilObject → Bool → List EventDecl → List OilObject → OilObject → Refusal → Type 0
ObjectFault objects scheduler events front object r = KindFault object r ⊎ ((is_known object ≡ true) × KnownObjectFault objects scheduler events front object r)

-- no object of the kind OS
abbrev pub lacks_os : List OilObject → Bool
lacks_os objects = not (list_any (is_of_kind (codes "OS")) objects)

-- the faults of a tree but those in the blocks of alarms
abbrev pub TreeFault : OilTree → Refusal → Type 0
TreeFault tree r =
    Somewhere (ObjectFault tree.objects (has_scheduler tree.objects) (events_of tree.objects)) tree.objects r
    ⊎ (Somewhere (BitFault tree.objects) tree.objects r
    ⊎ OilCase (lacks_os tree.objects) tree.cpu_line O11 r)
