-- What is marked between two counts.
use Rattle.std.specs.Prelude.{ℕ, ◌==◌, ◌&&◌, not, Bool, true, false}
use Rattle.osek_scheduler.specs.declared.state.TaskState.{TaskState}
use Rattle.osek_scheduler.specs.declared.state.TaskState.TheVariants as mode

abbrev pub is_waiting : TaskState → Bool
is_waiting mode.Suspended = false
is_waiting mode.Ready = false
is_waiting mode.Active = false
is_waiting (mode.Waiting mask) = true

abbrev pub is_ready : TaskState → Bool
is_ready mode.Suspended = false
is_ready mode.Ready = true
is_ready mode.Active = false
is_ready (mode.Waiting mask) = false

abbrev pub is_suspended : TaskState → Bool
is_suspended mode.Suspended = true
is_suspended mode.Ready = false
is_suspended mode.Active = false
is_suspended (mode.Waiting mask) = false

-- a task that is Suspended is Ready then: it is activated, by its arrival or otherwise
abbrev pub is_activated : (before now : TaskState) → Bool
is_activated before now = is_suspended before && is_ready now

-- a task that waits is Ready then: it is woken
abbrev pub is_woken : (before now : TaskState) → Bool
is_woken before now = is_waiting before && is_ready now

-- an alarm that has ticks left has none then: it expires, where its counter ticks
abbrev pub is_over : (before now : ℕ) → Bool
is_over before now = not (before == 0) && (now == 0)
