-- The faults of an object as a whole. All stand on the line of its kind.
use Rattle.std.specs.Prelude.{ℕ, Bool, ◌⊎◌, not, ◌||◌, ◌&&◌, ◌==◌, nat_lt, List, length, count_by, codes}
use Rattle.std.specs.List.{list_any}
use Rattle.std.specs.Str.{bytes_eq}
use Rattle.sloth_base.specs.declared.refusal.Code.TheVariants.{O7, O9, O11, O12, O14}
use Rattle.sloth_base.specs.declared.refusal.Refusal.{Refusal}
use Rattle.sloth_base.specs.Limits.{task_limit, counter_limit, alarm_limit, resource_limit, event_limit, name_limit}
use Rattle.oil_parse.specs.declared.tree.OilObject.{OilObject}
use Rattle.oil_table.specs.Cases.{OilCase}
use Rattle.oil_table.specs.Table.{is_nowhere, place_of}
use Rattle.oil_table.specs.Objects.{is_of_kind, is_used, is_declaration, is_declared}

-- the kind of an object is one of the subset
abbrev pub is_known : OilObject → Bool
is_known object = not (is_nowhere (place_of object.kind))

-- of the kind and the name of an earlier object, or a second OS object
abbrev pub is_double_of : OilObject → OilObject → Bool
is_double_of object earlier = bytes_eq earlier.kind object.kind && (bytes_eq earlier.name object.name || bytes_eq object.kind (codes "OS"))

-- a task of an earlier counter's name, or a counter of an earlier task's
abbrev pub shares_name : List OilObject → OilObject → Bool
shares_name front object =
    (is_of_kind (codes "TASK") object && is_declared front (codes "COUNTER") object.name)
    || (is_of_kind (codes "COUNTER") object && is_declared front (codes "TASK") object.name)

-- an object has the name of an earlier one of its kind, a task and a counter have one name, or an object has the name of RES_SCHEDULER where
-- that resource exists
abbrev pub is_doubled : Bool → List OilObject → OilObject → Bool
is_doubled scheduler front object =
    list_any (is_double_of object) front || (shares_name front object || (scheduler && is_declaration (codes "RESOURCE") (codes "RES_SCHEDULER") object))

-- a counter without its greatest value
abbrev pub is_endless : OilObject → Bool
is_endless object = is_of_kind (codes "COUNTER") object && not (is_used object.attrs (codes "MAXALLOWEDVALUE"))

-- an alarm without its counter or its action
abbrev pub is_idle : OilObject → Bool
is_idle object = is_of_kind (codes "ALARM") object && not (is_used object.attrs (codes "COUNTER") && is_used object.attrs (codes "ACTION"))

-- a task without a required attribute
abbrev pub lacks_task_attribute : OilObject → Bool
lacks_task_attribute object =
    is_of_kind (codes "TASK") object && not (is_used object.attrs (codes "PRIORITY") && (is_used object.attrs (codes "SCHEDULE")
    && (is_used object.attrs (codes "ACTIVATION") && is_used object.attrs (codes "AUTOSTART"))))

-- an object without a required attribute
abbrev pub lacks_attribute : OilObject → Bool
lacks_attribute object = lacks_task_attribute object || (is_endless object || is_idle object)

-- an application mode of another name
abbrev pub is_strange_mode : OilObject → Bool
is_strange_mode object = is_of_kind (codes "APPMODE") object && not (bytes_eq object.name (codes "OSDEFAULTAPPMODE"))

-- the object of this kind that comes behind so many
abbrev pub comes_behind : List ℕ → ℕ → List OilObject → OilObject → Bool
comes_behind kind limit front object = is_of_kind kind object && (count_by (is_of_kind kind) front == limit)

-- the 3rd counter or the 33rd alarm
abbrev pub is_clock_above : List OilObject → OilObject → Bool
is_clock_above front object = comes_behind (codes "COUNTER") counter_limit front object || comes_behind (codes "ALARM") alarm_limit front object

-- one task, resource, event, counter or alarm too many, or a name of too many bytes
abbrev pub is_above : List OilObject → OilObject → Bool
is_above front object =
    comes_behind (codes "TASK") task_limit front object || (comes_behind (codes "RESOURCE") resource_limit front object
    || (comes_behind (codes "EVENT") event_limit front object || (is_clock_above front object || nat_lt name_limit (length object.name))))

-- O7: an object of no kind. It is judged no further.
abbrev pub KindFault : OilObject → Refusal → Type 0
KindFault object r = OilCase (is_nowhere (place_of object.kind)) object.line O7 r

-- O9, O11, O12 and O14 of an object of a kind, with those before it
abbrev pub KnownFault : Bool → List OilObject → OilObject → Refusal → Type 0
KnownFault scheduler front object r =
    OilCase (is_doubled scheduler front object) object.line O9 r
    ⊎ (OilCase (lacks_attribute object) object.line O11 r
    ⊎ (OilCase (is_strange_mode object) object.line O12 r
    ⊎ OilCase (is_above front object) object.line O14 r))
