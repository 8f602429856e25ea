-- The faults of an OIL tree's meaning that are told: those of the judges, but O8 in the block of an attribute that is at fault itself, and each thing
-- behind a limit.
use Rattle.std.specs.Prelude.{◌≡◌, ℕ, Bool, true, false, ◌⊎◌, not, ◌||◌, ◌&&◌, nat_lt, if◌then◌else◌, List, fold, count_by, codes, Option, Some, None, is_none}
use Rattle.sloth_base.specs.declared.config.EventDecl.{EventDecl}
use Rattle.sloth_base.specs.declared.refusal.Code.TheVariants.{O8, O9, O10, O11, O12, O14}
use Rattle.sloth_base.specs.declared.refusal.Refusal.{Refusal}
use Rattle.sloth_base.specs.Limits.{task_limit, counter_limit, alarm_limit, resource_limit, event_limit}
use Rattle.sloth_base.specs.Search.{Somewhere}
use Rattle.oil_parse.specs.declared.tree.OilAttr.{OilAttr}
use Rattle.oil_parse.specs.declared.tree.OilObject.{OilObject}
use Rattle.oil_parse.specs.declared.tree.OilTree.{OilTree}
use Rattle.oil_table.specs.declared.counter_limits.Limits.{Limits}
use Rattle.oil_table.specs.declared.table.Attribute.{Attribute}
use Rattle.oil_table.specs.declared.table.Place.{Place}
use Rattle.oil_table.specs.declared.table.Place.TheVariants.{Nowhere}
use Rattle.oil_table.specs.Beyond.{is_beyond}
use Rattle.oil_table.specs.Cases.{OilCase}
use Rattle.oil_table.specs.Events.{events_of, BitFault}
use Rattle.oil_table.specs.Objects.{is_of_kind, has_scheduler}
use Rattle.oil_table.specs.Table.{attribute_of, place_of}
use Rattle.oil_table.specs.Uses.{is_second}
use Rattle.oil_rules.specs.AttributeFaults.{opened_place, place_by, refers_to_none, is_refused}
use Rattle.oil_rules.specs.ObjectFaults.{is_known, is_doubled, lacks_attribute, is_strange_mode, is_above, KindFault}
use Rattle.oil_rules.specs.TreeFaults.{TaskFaults, lacks_os}
use Rattle.oil_rules.specs.AlarmFaults.{AlarmFault}
use Rattle.oil_table.specs.AlarmCounters.{limits_of}

-- ---- attributes

-- an attribute with this row of the table has O8, O10 or O12 itself
abbrev pub is_at_fault : List OilObject → Bool → Limits → Option Attribute → OilAttr → Bool
is_at_fault objects scheduler limits row attr =
    is_none row || (refers_to_none objects scheduler row attr.value || (is_refused row attr.value || is_beyond limits row attr))

-- an attribute stands deeper than one at fault of this depth
abbrev pub is_inside : Option ℕ → OilAttr → Bool
is_inside None attr = false
is_inside (Some depth) attr = nat_lt depth attr.depth

-- The depth of the outermost attribute at fault in whose block what follows may stand. Behind one attribute more, of which it is said whether it is at fault.
abbrev pub fault_behind : Option ℕ → Bool → OilAttr → Option ℕ
fault_behind fault at_fault attr = if is_inside fault attr then fault else if at_fault then Some attr.depth else None

-- the place that the last attribute of an object's own block opened, and this depth
pub record Opened : Type 0 where
  pub inner : Place
  pub fault : Option ℕ

-- the row of an attribute in an object that is this place
abbrev pub row_by : Place → Place → OilAttr → Option Attribute
row_by place inner attr = attribute_of (place_by place inner attr) attr.name

-- the same with one attribute more
abbrev pub opened_more : List OilObject → Bool → Limits → Place → Opened → OilAttr → Opened
opened_more objects scheduler limits place opened attr = record {
  inner = opened_place place opened.inner attr;
  fault = fault_behind opened.fault (is_at_fault objects scheduler limits (row_by place opened.inner attr) attr) attr;
}

-- so behind these attributes
abbrev pub opened_by : List OilObject → Bool → Limits → Place → List OilAttr → Opened
opened_by objects scheduler limits place before = fold (opened_more objects scheduler limits place) (record { inner = Nowhere; fault = None }) before

-- O8, O9, O10 and O12 of an attribute with this row of the table, behind these attributes of its object; whether it stands in the block of one at fault
abbrev pub ToldRow : List OilObject → Bool → Option Attribute → Bool → List OilAttr → OilAttr → Refusal → Type 0
ToldRow objects scheduler row follows before attr r =
    OilCase (is_none row && not follows) attr.line O8 r
    ⊎ (OilCase (is_second 0 row before attr) attr.line O9 r
    ⊎ (OilCase (refers_to_none objects scheduler row attr.value) attr.line O10 r
    ⊎ OilCase (is_refused row attr.value) attr.line O12 r))

-- the same behind what these attributes opened
abbrev pub ToldOpened : List OilObject → Bool → Place → Opened → List OilAttr → OilAttr → Refusal → Type 0
ToldOpened objects scheduler place opened before attr r = ToldRow objects scheduler (row_by place opened.inner attr) (is_inside opened.fault attr) before attr r

-- the same in an object that is this place, whose counter has these limits
abbrev pub ToldAttribute : List OilObject → Bool → Limits → Place → List OilAttr → OilAttr → Refusal → Type 0
ToldAttribute objects scheduler limits place before attr r = ToldOpened objects scheduler place (opened_by objects scheduler limits place before) before attr r

-- ---- objects

-- an object of this kind behind more than there may be
abbrev pub is_behind_more : List ℕ → ℕ → List OilObject → OilObject → Bool
is_behind_more kind limit front object = is_of_kind kind object && nat_lt limit (count_by (is_of_kind kind) front)

abbrev pub is_far_above : List OilObject → OilObject → Bool
is_far_above front object =
    is_behind_more (codes "TASK") task_limit front object || (is_behind_more (codes "RESOURCE") resource_limit front object
    || (is_behind_more (codes "EVENT") event_limit front object || (is_behind_more (codes "COUNTER") counter_limit front object
    || is_behind_more (codes "ALARM") alarm_limit front object)))

-- O14 of an object, or one behind more than there may be
abbrev pub is_told_above : List OilObject → OilObject → Bool
is_told_above front object = is_above front object || is_far_above front object

-- O9, O11, O12 and O14 of an object of a kind, with those before it
abbrev pub ToldKnown : Bool → List OilObject → OilObject → Refusal → Type 0
ToldKnown scheduler front object r =
    OilCase (is_doubled scheduler front object) object.line O9 r
    ⊎ (OilCase (lacks_attribute object) object.line O11 r
    ⊎ (OilCase (is_strange_mode object) object.line O12 r
    ⊎ OilCase (is_told_above front object) object.line O14 r))

-- the faults of an object of a kind, and of its attributes
abbrev pub ToldInner : List OilObject → Bool → List EventDecl → List OilObject → OilObject → Refusal → Type 0
ToldInner objects scheduler events front object r =
    ToldKnown scheduler front object r
    ⊎ (Somewhere (ToldAttribute objects scheduler (limits_of objects object.attrs) (place_of object.kind)) object.attrs r
    ⊎ TaskFaults events front object r)

-- O7, and the other faults of an object of a kind, among all these objects and behind those before it
abbrev pub ToldObject : List OilObject → Bool → List EventDecl → List OilObject → OilObject → Refusal → Type 0
ToldObject objects scheduler events front object r = KindFault object r ⊎ ((is_known object ≡ true) × ToldInner objects scheduler events front object r)

-- ---- all

-- the faults that are told of the objects of a tree, but those in the blocks of alarms
abbrev pub ToldTree : OilTree → Refusal → Type 0
ToldTree tree r =
    Somewhere (ToldObject tree.objects (has_scheduler tree.objects) (events_of tree.objects)) tree.objects r
    ⊎ (Somewhere (BitFault tree.objects) tree.objects r
    ⊎ OilCase (lacks_os tree.objects) tree.cpu_line O11 r)

-- the faults that are told of a tree
abbrev pub ToldModel : OilTree → Refusal → Type 0
ToldModel tree r = ToldTree tree r ⊎ Somewhere (AlarmFault tree.objects) tree.objects r
