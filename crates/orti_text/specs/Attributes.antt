-- The kinds of objects that debuggers show of a kernel, and the attributes of each kind.
use Rattle.std.specs.Prelude.{ℕ, ◌==◌, Bool, true, false, cond, List, [], ◌∷◌, ◌++◌, codes, filter, get_or, length, map}
use Rattle.std.specs.List.{range_with_len}
use Rattle.sloth_base.specs.declared.config.Config.{Config}
use Rattle.sloth_base.specs.declared.config.EventDecl.{EventDecl}
use Rattle.sloth_base.specs.declared.config.TaskDecl.{TaskDecl}
use Rattle.sloth_base.specs.ConfigRange.{no_event}
use Rattle.sloth_base.specs.DeclaredNames.{alarm_names, task_names}
use Rattle.sloth_base.specs.Named.{counter_declaration}
use Rattle.mem_map.specs.StackParts.{first_own}
use Rattle.orti_text.specs.Tables.{Meaning, Whole, Plain, OneOf}
use Rattle.orti_text.specs.declared.attributes.Attribute.{Attribute}
use Rattle.orti_text.specs.declared.attributes.Attribute.TheVariants as attribute
use Rattle.orti_text.specs.declared.attributes.Kind.{Kind}
use Rattle.orti_text.specs.declared.attributes.Kind.TheVariants as kind

-- ---- kinds and their objects

-- the kinds, in the order of the file
abbrev pub all_kinds : List Kind
all_kinds = kind.Os ∷ kind.Task ∷ kind.Stack ∷ kind.Alarm ∷ kind.Resource ∷ []

abbrev pub kind_word : Kind → List ℕ
kind_word kind.Os = codes "OS"
kind_word kind.Task = codes "TASK"
kind_word kind.Stack = codes "STACK"
kind_word kind.Alarm = codes "ALARM"
kind_word kind.Resource = codes "RESOURCE"

abbrev pub kind_about : Kind → List ℕ
kind_about kind.Os = codes "OS"
kind_about kind.Task = codes "Tasks"
kind_about kind.Stack = codes "Stacks"
kind_about kind.Alarm = codes "Alarms"
kind_about kind.Resource = codes "Resources"

-- the stacks: that of all basic tasks, if there are any, and that of each extended task
abbrev pub stack_names : List TaskDecl → List (List ℕ)
stack_names tasks =
    cond (first_own tasks == 0) [] (codes "shared" ∷ []) ++ map (λ (d : TaskDecl). codes "stack_" ++ d.name) (filter (λ (d : TaskDecl). d.extended) tasks)

-- the names of the objects of a kind, in the order of their numbers
abbrev pub object_names : Config → Kind → List (List ℕ)
object_names config kind.Os = codes "sloth" ∷ []
object_names config kind.Task = task_names config
object_names config kind.Stack = stack_names config.tasks
object_names config kind.Alarm = alarm_names config
object_names config kind.Resource = config.resources ++ cond config.res_scheduler (codes "RES_SCHEDULER" ∷ []) []

-- ---- attributes

-- an event's declaration
abbrev pub event_declaration : Config → ℕ → EventDecl
event_declaration config e = get_or config.events e no_event

-- the attributes of a kind, in the order of the file
abbrev pub attributes : Config → Kind → List Attribute
attributes config kind.Os =
    attribute.RunningTask ∷ map attribute.CounterValue (range_with_len 0 (length config.counters)) ++ map attribute.EventMask (range_with_len 0 (length config.events))
attributes config kind.Task =
    attribute.StaticPriority ∷ attribute.TaskState ∷ attribute.Entered ∷ attribute.TaskStack ∷ attribute.Activations ∷ attribute.Events ∷ attribute.WaitMask ∷ []
attributes config kind.Stack = attribute.Size ∷ attribute.BaseAddress ∷ attribute.Direction ∷ []
attributes config kind.Alarm = attribute.AlarmTime ∷ attribute.CycleTime ∷ attribute.AlarmState ∷ attribute.Expiry ∷ attribute.AlarmCounter ∷ []
attributes config kind.Resource = attribute.Ceiling ∷ []

-- its word; of a counter or an event it stands before the object's name
abbrev pub attribute_word : Attribute → List ℕ
attribute_word attribute.RunningTask = codes "RUNNINGTASK"
attribute_word (attribute.CounterValue c) = codes "vs_COUNTER_"
attribute_word (attribute.EventMask e) = codes "vs_EVENT_"
attribute_word attribute.StaticPriority = codes "vs_STATICPRIORITY"
attribute_word attribute.TaskState = codes "STATE"
attribute_word attribute.Entered = codes "vs_ENTERED"
attribute_word attribute.TaskStack = codes "STACK"
attribute_word attribute.Activations = codes "CURRENTACTIVATIONS"
attribute_word attribute.Events = codes "vs_EVENTS"
attribute_word attribute.WaitMask = codes "vs_WAITMASK"
attribute_word attribute.Size = codes "SIZE"
attribute_word attribute.BaseAddress = codes "BASEADDRESS"
attribute_word attribute.Direction = codes "STACKDIRECTION"
attribute_word attribute.AlarmTime = codes "ALARMTIME"
attribute_word attribute.CycleTime = codes "CYCLETIME"
attribute_word attribute.AlarmState = codes "STATE"
attribute_word attribute.Expiry = codes "ACTION"
attribute_word attribute.AlarmCounter = codes "COUNTER"
attribute_word attribute.Ceiling = codes "PRIORITY"

-- the name of the counter or the event that an attribute is of
abbrev pub attribute_object : Config → Attribute → List ℕ
attribute_object config (attribute.CounterValue c) = (counter_declaration config c).name
attribute_object config (attribute.EventMask e) = (event_declaration config e).name
attribute_object config _ = []

abbrev pub attribute_name : Config → Attribute → List ℕ
attribute_name config a = attribute_word a ++ attribute_object config a

abbrev pub attribute_about : Attribute → List ℕ
attribute_about attribute.RunningTask = codes "Running task"
attribute_about (attribute.CounterValue c) = codes "Value of the counter"
attribute_about (attribute.EventMask e) = codes "Mask of the event"
attribute_about attribute.StaticPriority = codes "Static priority"
attribute_about attribute.TaskState = codes "State"
attribute_about attribute.Entered = codes "Entered and not left"
attribute_about attribute.TaskStack = codes "Stack"
attribute_about attribute.Activations = codes "Activations"
attribute_about attribute.Events = codes "Events that are set"
attribute_about attribute.WaitMask = codes "Events that it waits for"
attribute_about attribute.Size = codes "Bytes"
attribute_about attribute.BaseAddress = codes "Lowest address"
attribute_about attribute.Direction = codes "Direction of growth"
attribute_about attribute.AlarmTime = codes "Ticks to the expiry"
attribute_about attribute.CycleTime = codes "Cycle"
attribute_about attribute.AlarmState = codes "State"
attribute_about attribute.Expiry = codes "Action"
attribute_about attribute.AlarmCounter = codes "Counter"
attribute_about attribute.Ceiling = codes "Ceiling priority"

-- each switch stores the number of the running task
abbrev pub is_traced : Attribute → Bool
is_traced attribute.RunningTask = true
is_traced _ = false

-- the texts of an attribute that has two values
abbrev pub entered_names : List (List ℕ)
entered_names = codes "NO" ∷ codes "YES" ∷ []

abbrev pub alarm_state_names : List (List ℕ)
alarm_state_names = codes "ALARMSTOP" ∷ codes "ALARMRUN" ∷ []

-- the four states of a task (OSEK OS 2.2.3, section 4.2), by the numbers that GetTaskState gives
abbrev pub state_names : List (List ℕ)
state_names = codes "RUNNING" ∷ codes "WAITING" ∷ codes "READY" ∷ codes "SUSPENDED" ∷ []

-- what the values of an attribute mean
abbrev pub meaning : Config → Attribute → Meaning
meaning config attribute.RunningTask = OneOf (codes "NO_TASK" ∷ object_names config kind.Task)
meaning config attribute.TaskState = OneOf state_names
meaning config attribute.Entered = OneOf entered_names
meaning config attribute.TaskStack = OneOf (object_names config kind.Stack)
meaning config attribute.AlarmState = OneOf alarm_state_names
meaning config attribute.Direction = Plain
meaning config attribute.Expiry = Plain
meaning config attribute.AlarmCounter = Plain
meaning config _ = Whole
