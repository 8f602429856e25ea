-- What the events of a run ask of tasks and counters, and what of it is lost, by the states of the abstract scheduler: an activation of a task is lost where
-- the task is not Suspended (OSEK OS 2.2.3, section 13.2.3.1: E_OS_LIMIT), a tick of a counter where one is due already.
use Rattle.std.specs.Prelude.{ℕ, ◌+◌, ◌≡◌, ◌==◌, ◌&&◌, not, ltb, List, [], ◌∷◌, ◌++◌, Bool, true, false, cond, length, Option, Some, None, option_to_list}
use Rattle.sloth_base.specs.Named.{counter_declaration}
use Rattle.sloth_base.specs.Owners.{counter_line}
use Rattle.sloth_base.specs.declared.app.App.{App}
use Rattle.sloth_base.specs.declared.app.Call.{Call}
use Rattle.sloth_base.specs.declared.config.Action.{Action}
use Rattle.sloth_base.specs.declared.config.Action.TheVariants as action
use Rattle.sloth_base.specs.declared.config.AlarmDecl.{AlarmDecl}
use Rattle.sloth_base.specs.declared.config.Config.{Config}
use Rattle.sloth_base.specs.declared.service.Event.{Event}
use Rattle.sloth_base.specs.declared.service.Event.TheVariants as event
use Rattle.sloth_base.specs.declared.service.Stamped.{Stamped}
use Rattle.sloth_base.specs.declared.service.Service.{Service}
use Rattle.sloth_base.specs.declared.service.Service.TheVariants as service
use Rattle.osek_scheduler.specs.Meaning.{on_some}
use Rattle.osek_scheduler.specs.Services.{if_suspended, alarm_ticked_state, counted_on_state}
use Rattle.osek_scheduler.specs.State.{Task, System, task, counter, alarm}
use Rattle.osek_scheduler.specs.Steps.{OsekStep}
use Rattle.osek_machine.specs.Running.{own_operation, call_in}
use Rattle.losses_text.specs.declared.requests.Request.{Request}

-- a task is not Suspended
abbrev pub is_busy : System → ℕ → Bool
is_busy s t = if_suspended (task s t).state false true

abbrev pub request : (line at : ℕ) → (lost : Bool) → Request
request line at lost = record { line = line; at = at; lost = lost }

-- that a task be activated
abbrev pub activation : (t at : ℕ) → System → Request
activation t at s = request t at (is_busy s t)

-- that a counter of the configuration tick
abbrev pub tick : Config → (c at : ℕ) → System → Option Request
tick config c at s = cond (ltb c (length config.counters)) (Some (request (counter_line c) at (counter s c).due)) None

-- ---- alarms

-- an alarm counts a tick: the activation that it asks for, where it expires
abbrev pub alarm_requests : Action → (a at : ℕ) → System → List Request
alarm_requests (action.Activate t) a at s = cond ((alarm s a).left == 1) (activation t at s ∷ []) []
alarm_requests (action.Set t mask) a at s = []

-- of these alarms, of which the first has this number, those of a counter count a tick, each in the state that those before it leave
abbrev pub alarms_requests : (c first at : ℕ) → List AlarmDecl → System → List Request
alarms_requests c first at [] s = []
alarms_requests c first at (d ∷ declarations) s =
    cond (d.counter == c) (alarm_requests d.action first at s) []
    ++ alarms_requests c (first + 1) at declarations (cond (d.counter == c) (alarm_ticked_state d.action first s) s)

-- a tick of a counter: it counts on, and then its alarms count the tick
abbrev pub tick_requests : Config → (c at : ℕ) → System → List Request
tick_requests config c at s = alarms_requests c 0 at config.alarms (counted_on_state c (counter_declaration config c).max s)

-- ---- services

-- the call that is next in a task
abbrev pub next_call : App → Task → Option Call
next_call app k = on_some (own_operation app k) call_in

-- a service that task t calls on an object; ChainTask of the caller itself ends it first
abbrev pub service_request : Service → (t object at : ℕ) → System → Option Request
service_request service.ActivateTask t object at s = Some (activation object at s)
service_request service.ChainTask t object at s = Some (request object at (not (object == t) && is_busy s object))
service_request served t object at s = None

-- the same of the call that is next in the task
abbrev pub call_request : App → Service → (t at : ℕ) → System → Option Request
call_request app served t at s = on_some (next_call app (task s t)) (λ call. service_request served t call.object at s)

-- ---- events

-- an event by its kind, which ends at this count
abbrev pub requests_by : Config → App → Event → (at : ℕ) → System → List Request
requests_by config app (event.Admit t) at s = activation t at s ∷ []
requests_by config app (event.Due c) at s = option_to_list (tick config c at s)
requests_by config app (event.Tick c) at s = tick_requests config c at s
requests_by config app (event.Call t served status) at s = option_to_list (call_request app served t at s)
requests_by config app (event.Left t served) at s = option_to_list (call_request app served t at s)
requests_by config app e at s = []

-- what an event asks for that finds this state
abbrev pub event_requests : Config → App → Stamped → System → List Request
event_requests config app e s = requests_by config app e.event e.stamp.at s

-- ---- runs

-- the events lead on from s, each by a step of the abstract scheduler, and ask for all of this, each in the state that it finds
abbrev pub AreRequests : Config → App → List Stamped → System → List Request → Type 0
AreRequests config app [] s all = all ≡ []
AreRequests config app (e ∷ events) s all =
    (next : System) × OsekStep config app e.event s next × ((rest : List Request) × AreRequests config app events next rest × (all ≡ event_requests config app e s ++ rest))
