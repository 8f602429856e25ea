-- What the services do (OSEK OS 2.2.3, sections 13.2 and 13.4 to 13.6), and the ticks of counters (section 9).
use Rattle.std.specs.Prelude.{ℕ, ◌+◌, ◌-◌, ◌==◌, ◌&&◌, ◌||◌, not, List, [], ◌∷◌, Bool, true, false, cond, length, leb, ltb, get_or, set, bit_and, bit_or}
use Rattle.sloth_base.specs.declared.config.Action.{Action}
use Rattle.sloth_base.specs.declared.config.Action.TheVariants as action
use Rattle.sloth_base.specs.declared.config.AlarmDecl.{AlarmDecl}
use Rattle.sloth_base.specs.declared.config.Config.{Config}
use Rattle.sloth_base.specs.declared.config.CounterDecl.{CounterDecl}
use Rattle.sloth_base.specs.declared.app.App.{App}
use Rattle.sloth_base.specs.declared.service.ObjectKind.{ObjectKind}
use Rattle.sloth_base.specs.declared.service.ObjectKind.TheVariants as object
use Rattle.sloth_base.specs.declared.service.Service.{Service}
use Rattle.sloth_base.specs.declared.service.Service.TheVariants as service
use Rattle.sloth_base.specs.ServiceCodes.{is_service, object_kind}
use Rattle.sloth_base.specs.Status.{E_OK}
use Rattle.sloth_base.specs.ConfigRange.{scheduler_number}
use Rattle.sloth_base.specs.Named.{counter_declaration, declaration, body_of}
use Rattle.code_rules.specs.Code.{is_last}
use Rattle.osek_scheduler.specs.declared.state.TaskState.{TaskState}
use Rattle.osek_scheduler.specs.declared.state.TaskState.TheVariants as mode
use Rattle.osek_scheduler.specs.State.{Frame, Task, System, task, with_task, counter, with_counter, alarm, with_alarm, zero_registers, entry_frame}
use Rattle.osek_scheduler.specs.Meaning.{going_on_frame}

-- the first where the task is Suspended, else the second
abbrev pub if_suspended : {X : Type 0} → TaskState → X → X → X
if_suspended mode.Suspended first second = first
if_suspended mode.Ready first second = second
if_suspended mode.Active first second = second
if_suspended (mode.Waiting mask) first second = second

-- the system with a task in this state
abbrev pub with_state : System → ℕ → TaskState → System
with_state s t state = with_task s t (record (task s t) { state = state })

-- the system with a task Ready
abbrev pub activated_state : System → ℕ → System
activated_state s t = with_state s t mode.Ready

-- ---- the caller

-- the innermost function goes on behind its item
abbrev pub moved_frames : List Frame → List Frame
moved_frames [] = []
moved_frames (frame ∷ outer) = going_on_frame frame ∷ outer

-- a status in a0, x10
abbrev pub answered_task : ℕ → Task → Task
answered_task status t = record t { registers = set t.registers 5 status; frames = moved_frames t.frames }

-- E_OK in a0 and a value in a1, x11
abbrev pub answered_task_with : ℕ → Task → Task
answered_task_with value t = record t { registers = set (set t.registers 5 E_OK) 6 value; frames = moved_frames t.frames }

-- the caller waits for one of these events, and gives its internal resource back
abbrev pub waiting_task : ℕ → Task → Task
waiting_task mask t = record t { state = mode.Waiting mask; frames = moved_frames t.frames; raised = false }

-- ---- events

-- a task that waits for one of these set events is Ready
abbrev pub woken_state : TaskState → ℕ → ℕ → System → System
woken_state (mode.Waiting mask) events t s = cond (bit_and events mask == 0) s (activated_state s t)
woken_state mode.Suspended events t s = s
woken_state mode.Ready events t s = s
woken_state mode.Active events t s = s

-- the system with these events of a task set
abbrev pub with_events : System → ℕ → ℕ → System
with_events s t events = with_task s t (record (task s t) { events = events })

-- the system after events of a task are set
abbrev pub set_events : ℕ → ℕ → System → System
set_events t mask s =
    let events = bit_or (task s t).events mask in woken_state (task s t).state events t (with_events s t events)

-- ---- alarms

-- the operands of a service on an alarm: a0, x10, and a1, x11
abbrev pub first_operand : Task → ℕ
first_operand t = get_or t.registers 5 0

abbrev pub second_operand : Task → ℕ
second_operand t = get_or t.registers 6 0

-- an alarm is in use
abbrev pub is_in_use : System → ℕ → Bool
is_in_use s a = not ((alarm s a).left == 0)

-- a cycle that a counter allows: 0, or from its least to its greatest one
abbrev pub allows_cycle : CounterDecl → ℕ → Bool
allows_cycle d cycle = (cycle == 0) || (leb d.min_cycle cycle && leb cycle d.max)

-- so many ticks from now, and then this cycle
abbrev pub allows_relative : CounterDecl → (ticks cycle : ℕ) → Bool
allows_relative d ticks cycle = not (ticks == 0) && (leb ticks d.max && allows_cycle d cycle)

-- a value of the counter, and then this cycle
abbrev pub allows_absolute : CounterDecl → (start cycle : ℕ) → Bool
allows_absolute d start cycle = leb start d.max && allows_cycle d cycle

-- ---- what a service names

-- a task by its number
abbrev pub is_task : Config → ℕ → Bool
is_task config t = ltb t (length config.tasks)

-- a resource by its number, RES_SCHEDULER too
abbrev pub is_resource : Config → ℕ → Bool
is_resource config r = cond (r == scheduler_number) config.res_scheduler (ltb r (length config.resources))

-- an alarm by its number
abbrev pub is_alarm : Config → ℕ → Bool
is_alarm config a = ltb a (length config.alarms)

-- an object of a kind, by its number
abbrev pub is_object : Config → ObjectKind → ℕ → Bool
is_object config object.Nothing number = true
is_object config object.Task t = is_task config t
is_object config object.Resource r = is_resource config r
is_object config object.Alarm a = is_alarm config a

-- what a service names is there; what is released was taken last
abbrev pub is_there : Config → (held : List ℕ) → Service → (number : ℕ) → Bool
is_there config held s number =
    cond (is_service s service.ReleaseResource) (is_last number held) (is_object config (object_kind s) number)

-- ---- outcomes

-- the number of a task's state: running 0, waiting 1, ready or preempted 2, suspended 3
abbrev pub state_number : ℕ → ℕ → TaskState → ℕ
state_number caller t mode.Suspended = 3
state_number caller t mode.Ready = 2
state_number caller t mode.Active = cond (t == caller) 0 2
state_number caller t (mode.Waiting mask) = 1

-- the caller goes on with a status, or it leaves: it ended, or it waits
pub data ServiceOutcome : Type 0 where
  GoesOn : (status : ℕ) → System → ServiceOutcome
  Leaves : System → ServiceOutcome

-- ---- entries

-- a task starts at the first item of its body with zero registers, or goes on behind its wait with E_OK in a0
abbrev pub started_task : App → ℕ → List Frame → Task → Task
started_task app t [] old = record old { registers = zero_registers; frames = entry_frame app (body_of app.funcs t) ∷ [] }
started_task app t (frame ∷ outer) old = record old { registers = set old.registers 5 E_OK }

-- a task that runs, with its internal resource where its scheduling is NON
abbrev pub entered_state : Config → App → ℕ → System → System
entered_state config app t s =
    with_task s t (record (started_task app t (task s t).frames (task s t)) { state = mode.Active; raised = (declaration config t).non })

-- ---- ticks

-- what an alarm does as it expires: as ActivateTask and SetEvent do, and nothing where these answer 4 or 7
abbrev pub acted_state : Action → System → System
acted_state (action.Activate t) s = if_suspended (task s t).state (activated_state s t) s
acted_state (action.Set t mask) s = if_suspended (task s t).state s (set_events t mask s)

-- the system with so many ticks left of an alarm
abbrev pub with_left : (a left : ℕ) → System → System
with_left a left s = with_alarm s a (record (alarm s a) { left = left })

-- an alarm counts a tick: one that is not in use stays so, and one that expires begins its cycle and does its action
abbrev pub alarm_ticked_state : Action → ℕ → System → System
alarm_ticked_state does a s = cond ((alarm s a).left == 1) (acted_state does (with_left a (alarm s a).cycle s)) (with_left a ((alarm s a).left - 1) s)

-- of these alarms, of which the first has this number, those of a counter count a tick, in order
abbrev pub alarms_ticked_state : (c first : ℕ) → List AlarmDecl → System → System
alarms_ticked_state c first [] s = s
alarms_ticked_state c first (d ∷ declarations) s = alarms_ticked_state c (first + 1) declarations (cond (d.counter == c) (alarm_ticked_state d.action first s) s)

-- the value behind one; behind the greatest comes 0
abbrev pub next_value : (max value : ℕ) → ℕ
next_value max value = cond (value == max) 0 (value + 1)

-- a counter counts on, and is no longer due
abbrev pub counted_on_state : (c max : ℕ) → System → System
counted_on_state c max s = with_counter s c (record { value = next_value max (counter s c).value; due = false })

-- a tick of a counter: it counts on, and then its alarms count the tick
abbrev pub ticked_state : Config → ℕ → System → System
ticked_state config c s = alarms_ticked_state c 0 config.alarms (counted_on_state c (counter_declaration config c).max s)
