-- The attribute table: which attributes may stand where, and which values they take (OIL 2.5, section 3).
use Rattle.std.specs.Prelude.{ℕ, Bool, true, false, if◌then◌else◌, ◌||◌, ◌&&◌, ◌==◌, nat_le, List, codes, Option, Some, None}
use Rattle.std.specs.Str.{bytes_eq}
use Rattle.sloth_base.specs.Limits.{priority_limit, tick_limit}
use Rattle.oil_parse.specs.declared.tree.OilValue.{OilValue}
use Rattle.oil_parse.specs.declared.tree.OilValue.TheVariants.{Word, Number, Text}
use Rattle.oil_parse.specs.declared.tree.OilAttr.{OilAttr}
use Rattle.oil_table.specs.declared.table.Place.{Place}
use Rattle.oil_table.specs.declared.table.Place.TheVariants as place
use Rattle.oil_table.specs.declared.table.Attribute.{Attribute}
use Rattle.oil_table.specs.declared.table.Attribute.TheVariants as attribute

-- the place that an object of this kind is; nowhere, where there is no such kind
abbrev pub place_of : List ℕ → Place
place_of kind =
    if bytes_eq kind (codes "OS") then place.Os
    else if bytes_eq kind (codes "APPMODE") then place.AppMode
    else if bytes_eq kind (codes "TASK") then place.Task
    else if bytes_eq kind (codes "RESOURCE") then place.Resource
    else if bytes_eq kind (codes "EVENT") then place.Event
    else if bytes_eq kind (codes "COUNTER") then place.Counter
    else if bytes_eq kind (codes "ALARM") then place.Alarm
    else place.Nowhere

-- the name of a hook
abbrev pub is_hook : List ℕ → Bool
is_hook name =
    bytes_eq name (codes "STARTUPHOOK") || (bytes_eq name (codes "ERRORHOOK") || (bytes_eq name (codes "SHUTDOWNHOOK")
    || (bytes_eq name (codes "PRETASKHOOK") || bytes_eq name (codes "POSTTASKHOOK"))))

-- the name of an attribute that is TRUE or FALSE
abbrev pub is_flag : List ℕ → Bool
is_flag name = bytes_eq name (codes "USEGETSERVICEID") || (bytes_eq name (codes "USEPARAMETERACCESS") || bytes_eq name (codes "USERESSCHEDULER"))

-- the attributes of an OS object
abbrev pub os_attribute : List ℕ → Option Attribute
os_attribute name =
    if bytes_eq name (codes "STATUS") then Some attribute.Status
    else if is_hook name then Some attribute.Hook
    else if is_flag name then Some attribute.Flag
    else None

-- the attributes of a TASK object
abbrev pub task_attribute : List ℕ → Option Attribute
task_attribute name =
    if bytes_eq name (codes "PRIORITY") then Some attribute.Priority
    else if bytes_eq name (codes "SCHEDULE") then Some attribute.Schedule
    else if bytes_eq name (codes "ACTIVATION") then Some attribute.Activation
    else if bytes_eq name (codes "AUTOSTART") then Some attribute.Autostart
    else if bytes_eq name (codes "RESOURCE") then Some attribute.Resource
    else if bytes_eq name (codes "EVENT") then Some attribute.Event
    else None

-- the attributes of a COUNTER object
abbrev pub counter_attribute : List ℕ → Option Attribute
counter_attribute name =
    if bytes_eq name (codes "MAXALLOWEDVALUE") then Some attribute.Limit
    else if bytes_eq name (codes "TICKSPERBASE") then Some attribute.Ticks
    else if bytes_eq name (codes "MINCYCLE") then Some attribute.Limit
    else None

-- the attributes of an ALARM object
abbrev pub alarm_attribute : List ℕ → Option Attribute
alarm_attribute name =
    if bytes_eq name (codes "COUNTER") then Some attribute.Counter
    else if bytes_eq name (codes "ACTION") then Some attribute.Action
    else if bytes_eq name (codes "AUTOSTART") then Some attribute.Autostart
    else None

-- the attributes of the block of SETEVENT
abbrev pub setting_attribute : List ℕ → Option Attribute
setting_attribute name =
    if bytes_eq name (codes "TASK") then Some attribute.ActionTask
    else if bytes_eq name (codes "EVENT") then Some attribute.ActionEvent
    else None

-- the attributes of the block of AUTOSTART = TRUE of an alarm
abbrev pub wakeup_attribute : List ℕ → Option Attribute
wakeup_attribute name =
    if bytes_eq name (codes "ALARMTIME") then Some attribute.Time
    else if bytes_eq name (codes "CYCLETIME") then Some attribute.Cycle
    else if bytes_eq name (codes "APPMODE") then Some attribute.Mode
    else None

-- the one attribute of an object
abbrev pub only_attribute : List ℕ → List ℕ → Attribute → Option Attribute
only_attribute name word row = if bytes_eq name word then Some row else None

-- the row for an attribute of this name at this place, if there is one
abbrev pub attribute_of : Place → List ℕ → Option Attribute
attribute_of place.Os name = os_attribute name
attribute_of place.AppMode name = only_attribute name (codes "VALUE") attribute.Value
attribute_of place.Task name = task_attribute name
attribute_of place.Activation name = only_attribute name (codes "APPMODE") attribute.Mode
attribute_of place.Resource name = only_attribute name (codes "RESOURCEPROPERTY") attribute.Property
attribute_of place.Event name = only_attribute name (codes "MASK") attribute.Mask
attribute_of place.Counter name = counter_attribute name
attribute_of place.Alarm name = alarm_attribute name
attribute_of place.Activating name = only_attribute name (codes "TASK") attribute.ActionTask
attribute_of place.Setting name = setting_attribute name
attribute_of place.Wakeup name = wakeup_attribute name
attribute_of place.Nowhere name = None

-- it may be used once
abbrev pub is_single : Attribute → Bool
is_single attribute.Mode = false
is_single attribute.Resource = false
is_single attribute.Event = false
is_single _ = true

-- a word that an attribute allows
abbrev pub allows_word : Attribute → List ℕ → Bool
allows_word attribute.Status word = bytes_eq word (codes "STANDARD") || bytes_eq word (codes "EXTENDED")
allows_word attribute.Hook word = bytes_eq word (codes "FALSE")
allows_word attribute.Flag word = bytes_eq word (codes "TRUE") || bytes_eq word (codes "FALSE")
allows_word attribute.Value word = bytes_eq word (codes "AUTO")
allows_word attribute.Schedule word = bytes_eq word (codes "NON") || bytes_eq word (codes "FULL")
allows_word attribute.Autostart word = bytes_eq word (codes "TRUE") || bytes_eq word (codes "FALSE")
allows_word attribute.Mode word = true
allows_word attribute.Resource word = true
allows_word attribute.Event word = true
allows_word attribute.Counter word = true
allows_word attribute.ActionTask word = true
allows_word attribute.ActionEvent word = true
allows_word attribute.Action word = bytes_eq word (codes "ACTIVATETASK") || bytes_eq word (codes "SETEVENT")
allows_word attribute.Property word = bytes_eq word (codes "STANDARD")
allows_word attribute.Mask word = bytes_eq word (codes "AUTO")
allows_word _ word = false

-- a number that an attribute allows, those of an alarm whatever its counter
abbrev pub allows_number : Attribute → ℕ → Bool
allows_number attribute.Value number = true
allows_number attribute.Priority number = nat_le number priority_limit
allows_number attribute.Activation number = number == 1
allows_number attribute.Mask number = nat_le 1 number
allows_number attribute.Limit number = nat_le 1 number && nat_le number tick_limit
allows_number attribute.Ticks number = nat_le 1 number
allows_number attribute.Time number = nat_le 1 number
allows_number attribute.Cycle number = true
allows_number _ number = false

-- The table lists the value. A reference is any word.
abbrev pub is_allowed : Attribute → OilValue → Bool
is_allowed row (Word word) = allows_word row word
is_allowed row (Number number) = allows_number row number
is_allowed row (Text bytes) = false

-- a value is this word
abbrev pub is_word : OilValue → List ℕ → Bool
is_word (Word given) word = bytes_eq given word
is_word _ word = false

-- the place that the block of AUTOSTART = TRUE is
abbrev pub activation_place : OilAttr → Place
activation_place attr = if bytes_eq attr.name (codes "AUTOSTART") && is_word attr.value (codes "TRUE") then place.Activation else place.Nowhere

-- the place that the block of an attribute of an alarm is
abbrev pub alarm_place : OilAttr → Place
alarm_place attr =
    if bytes_eq attr.name (codes "AUTOSTART") && is_word attr.value (codes "TRUE") then place.Wakeup
    else if bytes_eq attr.name (codes "ACTION") && is_word attr.value (codes "ACTIVATETASK") then place.Activating
    else if bytes_eq attr.name (codes "ACTION") && is_word attr.value (codes "SETEVENT") then place.Setting
    else place.Nowhere

-- the place that the block of an attribute is
abbrev pub block_place : Place → OilAttr → Place
block_place place.Task attr = activation_place attr
block_place place.Alarm attr = alarm_place attr
block_place _ attr = place.Nowhere

-- no attribute may stand there
abbrev pub is_nowhere : Place → Bool
is_nowhere place.Nowhere = true
is_nowhere _ = false
