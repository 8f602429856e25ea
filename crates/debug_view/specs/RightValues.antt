-- What debuggers show of a kernel, and what of the abstract scheduler, of the configuration and of the map it is.
use Rattle.std.specs.Prelude.{ℕ, ◌+◌, ◌<◌, ◌≡◌, ◌≢◌, ◌⊎◌, ◌==◌, List, [], codes, cond, All, Contains, get_or, length}
use Rattle.sloth_base.specs.Named.{alarm_declaration, counter_of, declaration}
use Rattle.sloth_base.specs.declared.config.Config.{Config}
use Rattle.sloth_region.specs.declared.region.Map.{Map}
use Rattle.mem_map.specs.Zones.{stack_of}
use Rattle.rv32_instr.specs.Memory.{Memory}
use Rattle.osek_scheduler.specs.Priority.{ceiling, is_active}
use Rattle.osek_scheduler.specs.Services.{state_number}
use Rattle.osek_scheduler.specs.State.{System, alarm, counter, task}
use Rattle.osek_scheduler.specs.declared.state.Alarm.{Alarm}
use Rattle.osek_scheduler.specs.declared.state.TaskState.{TaskState}
use Rattle.osek_scheduler.specs.declared.state.TaskState.TheVariants as mode
use Rattle.sim_induction.specs.Mirror.{NoneIsActive, priority_of}
use Rattle.orti_text.specs.Attributes.{attribute_name, attributes, event_declaration, kind_word, meaning, object_names}
use Rattle.orti_text.specs.Formulas.{value}
use Rattle.orti_text.specs.OrtiTable.{orti_table}
use Rattle.orti_text.specs.Tables.{Meaning, Named, Object, OneOf, Plain, Value, Expression, Whole, Literal}
use Rattle.orti_text.specs.Values.{action_text, resource_number, stack_at}
use Rattle.orti_text.specs.declared.attributes.Attribute.{Attribute}
use Rattle.orti_text.specs.declared.attributes.Attribute.TheVariants as attribute
use Rattle.orti_text.specs.declared.attributes.Kind.{Kind}

-- ---- tasks

-- the Active task of the highest current priority: each other one has a lower one
pub record IsHighestActive (config : Config) (s : System) (t : ℕ) : Type 0 where
  pub declared : t < length config.tasks
  pub active : (task s t).state ≡ mode.Active
  pub above : (u : ℕ) → u < length config.tasks → (task s u).state ≡ mode.Active → u ≢ t → priority_of config s u < priority_of config s t

-- its number and 1 more, or 0 where no task is Active
abbrev pub IsRunningNumber : Config → System → ℕ → Type 0
IsRunningNumber config s n = ((t : ℕ) × IsHighestActive config s t × (n ≡ t + 1)) ⊎ (NoneIsActive config s × (n ≡ 0))

-- the number that GetTaskState gives of a task to the highest Active one; where no task is Active, to whoever would ask
abbrev pub IsStateNumber : Config → System → ℕ → ℕ → Type 0
IsStateNumber config s t n =
    ((r : ℕ) × IsHighestActive config s r × (n ≡ state_number r t (task s t).state))
    ⊎ (NoneIsActive config s × ((r : ℕ) → n ≡ state_number r t (task s t).state))

-- how often a task is activated: once where it is not Suspended
abbrev pub activations : TaskState → ℕ
activations mode.Suspended = 0
activations mode.Ready = 1
activations mode.Active = 1
activations (mode.Waiting mask) = 1

-- the events that a task waits for
abbrev pub awaited_events : TaskState → ℕ
awaited_events mode.Suspended = 0
awaited_events mode.Ready = 0
awaited_events mode.Active = 0
awaited_events (mode.Waiting mask) = mask

-- ---- alarms

-- a number of an alarm that is in use, 0 of any other
abbrev pub if_in_use : Alarm → ℕ → ℕ
if_in_use a n = cond (a.left == 0) 0 n

-- ---- attributes

-- which number an attribute of the object of a number is
abbrev pub IsRightNumber : Config → Map → System → Attribute → (object number : ℕ) → Type 0
IsRightNumber config m s attribute.RunningTask k n = IsRunningNumber config s n
IsRightNumber config m s (attribute.CounterValue c) k n = n ≡ (counter s c).value
IsRightNumber config m s (attribute.EventMask e) k n = n ≡ (event_declaration config e).mask
IsRightNumber config m s attribute.StaticPriority t n = n ≡ (declaration config t).priority
IsRightNumber config m s attribute.TaskState t n = IsStateNumber config s t n
IsRightNumber config m s attribute.Entered t n = n ≡ cond (is_active (task s t).state) 1 0
IsRightNumber config m s attribute.TaskStack t n = stack_at m n ≡ stack_of m t
IsRightNumber config m s attribute.Activations t n = n ≡ activations (task s t).state
IsRightNumber config m s attribute.Events t n = n ≡ (task s t).events
IsRightNumber config m s attribute.WaitMask t n = n ≡ awaited_events (task s t).state
IsRightNumber config m s attribute.Size k n = n ≡ (stack_at m k).len
IsRightNumber config m s attribute.BaseAddress k n = n ≡ (stack_at m k).base
IsRightNumber config m s attribute.Direction k n = ⊥
IsRightNumber config m s attribute.AlarmTime a n = n ≡ (alarm s a).left
IsRightNumber config m s attribute.CycleTime a n = n ≡ if_in_use (alarm s a) (alarm s a).cycle
IsRightNumber config m s attribute.AlarmState a n = n ≡ if_in_use (alarm s a) 1
IsRightNumber config m s attribute.Expiry a n = ⊥
IsRightNumber config m s attribute.AlarmCounter a n = ⊥
IsRightNumber config m s attribute.Ceiling r n = n ≡ ceiling config (resource_number config r)

-- a number of an enumeration is that of one of its texts
abbrev pub HasMeaning : Meaning → ℕ → Type 0
HasMeaning Whole n = Unit {0}
HasMeaning Plain n = ⊥
HasMeaning (OneOf names) n = n < length names

-- which text it is, whatever runs
abbrev pub IsRightText : Config → Attribute → (object : ℕ) → List ℕ → Type 0
IsRightText config attribute.Direction k text = text ≡ codes "DOWN"
IsRightText config attribute.Expiry a text = text ≡ action_text config (alarm_declaration config a).action
IsRightText config attribute.AlarmCounter a text = text ≡ (counter_of config a).name
IsRightText config _ k text = ⊥

-- what a debugger shows of it over this memory is that
abbrev pub IsRightValue : Memory → Config → Map → System → Attribute → (object : ℕ) → Value → Type 0
IsRightValue memory config m s a k (Expression f) = IsRightNumber config m s a k (value memory f) × HasMeaning (meaning config a) (value memory f)
IsRightValue memory config m s a k (Literal text) = IsRightText config a k text × (meaning config a ≡ Plain)

-- ---- the table

-- a value of an object of the table is that of an attribute of the object of this kind and number, and it shows what that is
pub record IsRight (memory : Memory) (config : Config) (m : Map) (s : System) (o : Object) (v : Named) : Type 0 where
  pub of_kind : Kind
  pub number : ℕ
  pub shown : Attribute
  pub declared : number < length (object_names config of_kind)
  pub kind_is : o.kind ≡ kind_word of_kind
  pub object_is : o.name ≡ get_or (object_names config of_kind) number []
  pub among : Contains (attributes config of_kind) shown
  pub name_is : v.name ≡ attribute_name config shown
  pub right : IsRightValue memory config m s shown number v.value

-- each value of each object of the table is so
abbrev pub AreRight : Memory → Config → Map → System → Type 0
AreRight memory config m s = All (λ (o : Object). All (IsRight memory config m s o) o.values) (orti_table config m).objects
