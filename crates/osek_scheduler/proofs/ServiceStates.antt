-- States behind a service, by its outcome.
use Rattle.std.specs.Prelude.{ℕ, [], false}
use Rattle.osek_scheduler.specs.declared.state.TaskState.TheVariants as mode
use Rattle.osek_scheduler.specs.State.{System, task, with_task, zero_registers}
use Rattle.osek_scheduler.specs.Services.{answered_task, answered_task_with, ServiceOutcome, GoesOn, Leaves}

-- the system after its caller went on with a status
abbrev pub answered_state : ℕ → ℕ → System → System
answered_state status t s = with_task s t (answered_task status (task s t))

-- the system after its caller went on with E_OK and a value
abbrev pub answered_state_with : ℕ → ℕ → System → System
answered_state_with value t s = with_task s t (answered_task_with value (task s t))

-- the caller ends; what it leaves is clear for its next activation
abbrev pub ended_state : ℕ → System → System
ended_state t s = with_task s t (record (task s t) { state = mode.Suspended; registers = zero_registers; frames = []; events = 0; raised = false })

-- a fact on the system behind an outcome
abbrev pub IsAfter : (System → Type 0) → ServiceOutcome → Type 0
IsAfter P (GoesOn status after) = P after
IsAfter P (Leaves after) = P after
