-- The events that a task's next item may be.
use Rattle.std.specs.Prelude.{ℕ, Option, Some, None, slice_get}
use Rattle.sloth_base.specs.declared.config.Config.{Config}
use Rattle.sloth_base.specs.declared.app.App.{App}
use Rattle.sloth_base.specs.declared.service.Event.{Event}
use Rattle.sloth_base.specs.declared.service.Event.TheVariants as event
use Rattle.sloth_base.specs.declared.service.Service.{Service}
use Rattle.osek_scheduler.specs.declared.change.Plan.{Plan}
use Rattle.osek_scheduler.specs.State.{System, task}
use Rattle.osek_scheduler.specs.Meaning.{on_some}
use Rattle.osek_machine.specs.Running.{own_operation, run_plan, call_in, call_plan}

-- the plan of the next item of task t, where that is no service
abbrev pub own_plan : App → ℕ → System → Option Plan
own_plan app t s = on_some (own_operation app (task s t)) (λ o. run_plan app o (task s t) s.symbols)

-- the result that a plan shows
abbrev pub shown_result : Option Plan → Option ℕ
shown_result o = on_some o (λ p. p.answer)

-- the run of that item
abbrev pub item_event : App → ℕ → System → Option Event
item_event app t s =
    on_some (shown_result (own_plan app t s)) (λ result.
    on_some (slice_get (task s t).frames 0) (λ frame. Some (event.Run t frame.func frame.item result)))

-- a service that goes on with a status, or with which the task leaves
abbrev pub served_event : ℕ → Service → Option ℕ → Event
served_event t served (Some status) = event.Call t served status
served_event t served None = event.Left t served

-- the same by its plan, if there is one
abbrev pub planned_event : ℕ → Service → Option Plan → Option Event
planned_event t served o = on_some o (λ p. Some (served_event t served p.answer))

-- the service that the next item of task t is
abbrev pub service_event : Config → App → ℕ → System → Option Event
service_event config app t s =
    on_some (own_operation app (task s t)) (λ o. on_some (call_in o) (λ call. planned_event t call.service (call_plan config call.service t s call)))
