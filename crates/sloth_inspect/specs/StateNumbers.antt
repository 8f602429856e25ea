-- The numbers of task states.
use Rattle.std.specs.Prelude.{ℕ}
use Rattle.osek_scheduler.specs.declared.state.TaskState.{TaskState}
use Rattle.osek_scheduler.specs.declared.state.TaskState.TheVariants as mode

-- the number of a task's state
abbrev pub state_number : TaskState → ℕ
state_number mode.Suspended = 0
state_number mode.Ready = 1
state_number mode.Active = 2
state_number (mode.Waiting mask) = 3
