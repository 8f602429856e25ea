-- The faults in the blocks of an alarm: what its action and its start lack, and what their attributes say wrongly.
use Rattle.std.specs.Prelude.{◌≡◌, ℕ, Bool, true, false, ◌⊎◌, not, ◌||◌, ◌&&◌, List, find, codes, Option, Some, None}
use Rattle.std.specs.List.{list_any}
use Rattle.sloth_base.specs.declared.refusal.Code.TheVariants.{O9, O10, O11, O12}
use Rattle.sloth_base.specs.declared.refusal.Refusal.{Refusal}
use Rattle.sloth_base.specs.Search.{Somewhere}
use Rattle.oil_parse.specs.declared.tree.OilValue.{OilValue}
use Rattle.oil_parse.specs.declared.tree.OilValue.TheVariants.{Word}
use Rattle.oil_parse.specs.declared.tree.OilAttr.{OilAttr}
use Rattle.oil_parse.specs.declared.tree.OilObject.{OilObject}
use Rattle.oil_table.specs.declared.table.Place.{Place}
use Rattle.oil_table.specs.declared.table.Place.TheVariants as place
use Rattle.oil_table.specs.declared.table.Attribute.{Attribute}
use Rattle.oil_table.specs.Cases.{OilCase}
use Rattle.oil_table.specs.Table.{attribute_of, block_place}
use Rattle.oil_table.specs.Objects.{is_of_kind, is_use, object_named}
use Rattle.oil_table.specs.Uses.{is_second}
use Rattle.oil_table.specs.declared.counter_limits.Limits.{Limits}
use Rattle.oil_table.specs.Beyond.{is_beyond}
use Rattle.oil_table.specs.ListedEvents.{lists_event}
use Rattle.oil_table.specs.AlarmCounters.{limits_of}
use Rattle.oil_rules.specs.Blocks.{BlockText, blocks_of, first_block, is_inner_use, is_used_in, first_in}

-- ---- what is missing

-- a block that is this place lacks a required attribute
abbrev pub lacks_inner : Place → List OilAttr → Bool
lacks_inner place.Activating inner = not (is_used_in inner (codes "TASK"))
lacks_inner place.Setting inner = not (is_used_in inner (codes "TASK") && is_used_in inner (codes "EVENT"))
lacks_inner place.Wakeup inner = not (is_used_in inner (codes "ALARMTIME") && is_used_in inner (codes "CYCLETIME"))
lacks_inner _ inner = false

-- the place that the block of an attribute of an alarm is
abbrev pub place_behind : Option OilAttr → Place
place_behind None = place.Nowhere
place_behind (Some attr) = block_place place.Alarm attr

-- the block of the first use of an attribute lacks a required one
abbrev pub lacks_behind : List ℕ → List OilAttr → Bool
lacks_behind name attrs = lacks_inner (place_behind (find (is_use name) attrs)) (first_block name attrs)

-- an alarm whose action or start lacks a required attribute
abbrev pub lacks_part : List OilAttr → Bool
lacks_part attrs = lacks_behind (codes "ACTION") attrs || lacks_behind (codes "AUTOSTART") attrs

-- ---- what is wrong

-- there is a task, and it does not list the event
abbrev pub leaves_out : Option OilObject → List ℕ → Bool
leaves_out None word = false
leaves_out (Some task) word = not (list_any (lists_event word) task.attrs)

-- the task that the action with this block names does not list the event that a value names
abbrev pub is_left_out : List OilObject → List OilAttr → OilValue → Bool
is_left_out objects inner (Word word) = leaves_out (object_named objects (codes "TASK") (first_in inner (codes "TASK"))) word
is_left_out objects inner _ = false

-- this place is the block of an action that sets an event
abbrev pub sets_event : Place → Bool
sets_event place.Setting = true
sets_event _ = false

-- an event of an action that its task does not list
abbrev pub is_unlisted : List OilObject → Place → List OilAttr → OilAttr → Bool
is_unlisted objects place inner attr = sets_event place && (is_inner_use (codes "EVENT") attr && is_left_out objects inner attr.value)

-- O9, O10 and O12 of an attribute with this row of the table, in a block that is this place, behind these of the block
abbrev pub BlockAttributeFault : List OilObject → Limits → Place → List OilAttr → Option Attribute → List OilAttr → OilAttr → Refusal → Type 0
BlockAttributeFault objects limits place inner row before attr r =
    OilCase (is_second 1 row before attr) attr.line O9 r
    ⊎ (OilCase (is_unlisted objects place inner attr) attr.line O10 r
    ⊎ OilCase (is_beyond limits row attr) attr.line O12 r)

-- the same by the name of the attribute
abbrev pub InsideFault : List OilObject → Limits → Place → List OilAttr → List OilAttr → OilAttr → Refusal → Type 0
InsideFault objects limits place inner before attr r = BlockAttributeFault objects limits place inner (attribute_of place attr.name) before attr r

-- the same of all attributes of a block
abbrev pub BlockFault : List OilObject → Limits → List BlockText → BlockText → Refusal → Type 0
BlockFault objects limits front block r = Somewhere (InsideFault objects limits (block_place place.Alarm block.head) block.inner) block.inner r

-- O9 to O12 in the blocks of an alarm among these objects
abbrev pub PartFault : List OilObject → OilObject → Refusal → Type 0
PartFault objects object r =
    OilCase (lacks_part object.attrs) object.line O11 r
    ⊎ Somewhere (BlockFault objects (limits_of objects object.attrs)) (blocks_of object.attrs) r

-- the same of an object that is an alarm
abbrev pub AlarmFault : List OilObject → List OilObject → OilObject → Refusal → Type 0
AlarmFault objects front object r = (is_of_kind (codes "ALARM") object ≡ true) × PartFault objects object r
