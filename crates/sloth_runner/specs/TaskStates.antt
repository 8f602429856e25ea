-- What a run shows of its tasks at a count.
use Rattle.std.specs.Prelude.{ℕ, ◌≡◌, ◌+◌, ◌<◌, ◌≤◌, Bool, List, [], ◌∷◌, length, Option, Some, None, true, false, not, if◌then◌else◌}
use Rattle.sloth_base.specs.declared.image.Image.{Image}
use Rattle.sloth_base.specs.declared.service.Arrival.{Arrival}
use Rattle.sloth_base.specs.Machine.{State}
use Rattle.rv32_instr.specs.Memory.{Memory, memory_of}
use Rattle.rv32_machine.specs.Start.{start}
use Rattle.rv32_machine.specs.Run.{state_with_arrivals, state_after}
use Rattle.osek_scheduler.specs.declared.state.TaskState.{TaskState}
use Rattle.sloth_base.specs.Owners.{counter_line}
use Rattle.sloth_inspect.specs.States.{states_in, running_number_in, is_pending_in, pending_lines_in, levels_in}
use Rattle.sloth_runner.specs.declared.task_states.Seen.{Seen}
use Rattle.sloth_runner.specs.declared.runner.RunEnd.TheVariants as ends
use Rattle.sloth_runner.specs.declared.task_states.Interrupts.{Interrupts}
use Rattle.sloth_runner.specs.declared.task_states.Sight.{Sight}
use Rattle.sloth_runner.specs.declared.task_states.Sight.TheVariants as sights
use Rattle.sloth_runner.specs.Runner.{run_end}

-- the states of the image's tasks, as a state of the machine shows them
abbrev pub task_states : Image → State → List TaskState
task_states image state = states_in (memory_of state.core) (length image.tasks)

-- the running task's number and 1 more, or 0, as a state of the machine shows it
abbrev pub running_task : State → ℕ
running_task state = running_number_in (memory_of state.core)

-- the lines of the two counters that there may be are pending
abbrev pub pending_counters_in : Memory → List Bool
pending_counters_in memory = is_pending_in memory (counter_line 0) ∷ is_pending_in memory (counter_line 1) ∷ []

-- what a state of the machine shows of interrupts: which lines of the image's tasks and which of counters are pending, the running level, and
-- whether all are masked
abbrev pub interrupts_in : Image → State → Interrupts
interrupts_in image state = record {
  pending = pending_lines_in (memory_of state.core) (length image.tasks);
  counters_pending = pending_counters_in (memory_of state.core);
  level = state.core.ilevel;
  masked = not state.core.mie;
}

-- the level bytes of the lines of the image's tasks
abbrev pub task_levels : Image → State → List ℕ
task_levels image state = levels_in (memory_of state.core) (length image.tasks)

-- all counts from one to below another find MIE 0
abbrev pub AreMasked : Image → List Arrival → (from to : ℕ) → Type 0
AreMasked image arrivals from to =
    (count : ℕ) (state : State) → from ≤ count → count < to → state_after count arrivals (start image) ≡ Some state → state.core.mie ≡ false

-- Of the counts below a number this is the last one that finds MIE 1, and these are the states there: after the arrivals of the count, and
-- before a line is taken.
pub record AreLastStates (image : Image) (arrivals : List Arrival) (below : ℕ) (seen : Seen) : Type 0 where
  pub state : State
  pub within : seen.count < below
  pub after : state_after seen.count arrivals (start image) ≡ Some state
  pub enabled : state.core.mie ≡ true
  pub tasks : seen.tasks ≡ task_states image (state_with_arrivals arrivals seen.count state)
  pub running : seen.running ≡ running_task (state_with_arrivals arrivals seen.count state)
  pub last : AreMasked image arrivals (seen.count + 1) below

-- What a run of k + 1 instructions shows: where and why it stops; or that no count up to k finds MIE 1; or the last count that does, with
-- the states there.
abbrev pub AreStatesAt : Image → List Arrival → ℕ → Sight → Type 0
AreStatesAt image arrivals k (sights.Stopped pc stop) = run_end image arrivals (k + 1) ≡ ends.Stopped pc stop
AreStatesAt image arrivals k sights.Booting = (run_end image arrivals (k + 1) ≡ ends.Whole) × AreMasked image arrivals 0 (k + 1)
AreStatesAt image arrivals k (sights.At seen) = (run_end image arrivals (k + 1) ≡ ends.Whole) × AreLastStates image arrivals (k + 1) seen

-- ---- on the way

-- what a state shows of so many tasks at a count, where it finds MIE 1
abbrev pub open_states : (tasks count : ℕ) → State → Option Seen
open_states tasks count now =
    if now.core.mie
    then Some (record { count = count; tasks = states_in (memory_of now.core) tasks; running = running_number_in (memory_of now.core) })
    else None

-- what is seen of a state at a count: the tasks' states, where it finds MIE 1
abbrev pub image_states : Image → ℕ → State → Option Seen
image_states image count state =
    if state.core.mie
    then Some (record { count = count; tasks = task_states image state; running = running_task state })
    else None

-- what was seen last at the counts below this one
abbrev pub IsLast : Image → List Arrival → ℕ → Option Seen → Type 0
IsLast image arrivals below None = AreMasked image arrivals 0 below
IsLast image arrivals below (Some seen) = AreLastStates image arrivals below seen
