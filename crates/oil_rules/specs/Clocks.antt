-- The counters and alarms that a tree means, where it has no fault (OIL 2.5, sections 3.2.8 and 3.2.9).
use Rattle.std.specs.Prelude.{ℕ, if◌then◌else◌, List, map, filter, find, position, codes, Option, Some, None, unwrap_or}
use Rattle.std.specs.Str.{bytes_eq}
use Rattle.sloth_base.specs.declared.config.EventDecl.{EventDecl}
use Rattle.sloth_base.specs.declared.config.CounterDecl.{CounterDecl}
use Rattle.sloth_base.specs.declared.config.Action.{Action}
use Rattle.sloth_base.specs.declared.config.Action.TheVariants as action
use Rattle.sloth_base.specs.declared.config.AlarmDecl.{AlarmDecl}
use Rattle.sloth_base.specs.Limits.{tick_limit}
use Rattle.oil_parse.specs.declared.tree.OilValue.{OilValue}
use Rattle.oil_parse.specs.declared.tree.OilValue.TheVariants.{Word}
use Rattle.oil_parse.specs.declared.tree.OilAttr.{OilAttr}
use Rattle.oil_parse.specs.declared.tree.OilObject.{OilObject}
use Rattle.oil_table.specs.Objects.{is_of_kind, is_use, first_is, first_number}
use Rattle.oil_table.specs.Masks.{mask_of_value}
use Rattle.oil_rules.specs.Blocks.{first_block, first_in, number_in}

-- the counter that an object declares
abbrev pub declared_counter : OilObject → CounterDecl
declared_counter object = record {
  name = object.name;
  max = unwrap_or (first_number object.attrs (codes "MAXALLOWEDVALUE")) tick_limit;
  min_cycle = unwrap_or (first_number object.attrs (codes "MINCYCLE")) 1;
}

-- the counters that objects declare
abbrev pub counters_of : List OilObject → List CounterDecl
counters_of objects = map declared_counter (filter (is_of_kind (codes "COUNTER")) objects)

-- the number of the object that a value names among these, or 0
abbrev pub number_of_value : List (List ℕ) → OilValue → ℕ
number_of_value names (Word word) = unwrap_or (position (bytes_eq word) names) 0
number_of_value names _ = 0

-- the number of the object that an attribute names among these, or 0
abbrev pub number_named : List (List ℕ) → Option OilAttr → ℕ
number_named names None = 0
number_named names (Some attr) = number_of_value names attr.value

-- the mask of the event that an attribute names, or 0
abbrev pub mask_named_by : List EventDecl → Option OilAttr → ℕ
mask_named_by events None = 0
mask_named_by events (Some attr) = mask_of_value events attr.value

-- the action of an alarm with these attributes, by the block behind its first ACTION
abbrev pub action_of : List (List ℕ) → List EventDecl → List OilAttr → Action
action_of tasks events attrs =
    let inner = first_block (codes "ACTION") attrs in
    let task = number_named tasks (first_in inner (codes "TASK")) in
    if first_is attrs (codes "ACTION") (codes "SETEVENT") then action.Set task (mask_named_by events (first_in inner (codes "EVENT"))) else action.Activate task

-- what an attribute of the block of AUTOSTART = TRUE says; 0 where the alarm does not start by itself
abbrev pub started : List OilAttr → List ℕ → ℕ
started attrs name =
    if first_is attrs (codes "AUTOSTART") (codes "TRUE") then unwrap_or (number_in (first_block (codes "AUTOSTART") attrs) name) 0 else 0

-- the alarm that an object declares, among tasks and counters of these names
abbrev pub declared_alarm : List (List ℕ) → List (List ℕ) → List EventDecl → OilObject → AlarmDecl
declared_alarm tasks counters events object = record {
  name = object.name;
  counter = number_named counters (find (is_use (codes "COUNTER")) object.attrs);
  action = action_of tasks events object.attrs;
  time = started object.attrs (codes "ALARMTIME");
  cycle = started object.attrs (codes "CYCLETIME");
}

-- the alarms that objects declare
abbrev pub alarms_of : List (List ℕ) → List (List ℕ) → List EventDecl → List OilObject → List AlarmDecl
alarms_of tasks counters events objects = map (declared_alarm tasks counters events) (filter (is_of_kind (codes "ALARM")) objects)
