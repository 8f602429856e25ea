use Rattle.std.proofs.Common.{◌≡◌, ◌<◌, ℕ, get_or}
use Rattle.osek_scheduler.specs.declared.state.TaskState.TheVariants as mode
use Rattle.sloth_inspect.specs.StateNumbers.{state_number}
use Rattle.wave_text.proofs.signals.same_states.Given as goal

abbrev pub invariant-loop-task : goal.invariant-loop-task
invariant-loop-task l = (t : ℕ) → t < l.task → state_number (get_or l.one t mode.Suspended) ≡ state_number (get_or l.other t mode.Suspended)
