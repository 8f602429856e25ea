-- The states of tasks, as the memory and the controller of the machine show them.
use Rattle.std.specs.Prelude.{ℕ, ◌-◌, ◌==◌, if◌then◌else◌, Bool, false, List, ◌++◌, map, replicate, slice_index}
use Rattle.std.specs.List.{range_with_len}
use Rattle.sloth_base.specs.Limits.{task_limit}
use Rattle.sloth_region.specs.Layout.{cur, active, wait}
use Rattle.rv32_instr.specs.Ram.{word_at}
use Rattle.rv32_instr.specs.Memory.{Memory}
use Rattle.osek_scheduler.specs.declared.state.TaskState.{TaskState}
use Rattle.osek_scheduler.specs.declared.state.TaskState.TheVariants as mode

-- A task is Active where its first service word is 1. Where it is not, the controller's line of its number tells the other states apart: it is
-- not enabled where the task waits, for the events of its third word, and pending where the task is Ready.
unfoldable pub state_in : Memory → ℕ → TaskState
state_in memory task =
    if word_at memory.ram (active task) == 1 then mode.Active
    else if slice_index memory.lines.enabled task == 1
    then (if slice_index memory.lines.pending task == 1 then mode.Ready else mode.Suspended)
    else mode.Waiting (word_at memory.ram (wait task))

-- those of so many tasks, in `task_limit` places; an unused place has Suspended
abbrev pub states_in : Memory → ℕ → List TaskState
states_in memory tasks = map (state_in memory) (range_with_len 0 tasks) ++ replicate (task_limit - tasks) mode.Suspended

-- the running task's number and 1 more, or 0, as the first service word says
abbrev pub running_number_in : Memory → ℕ
running_number_in memory = word_at memory.ram cur

-- the line of a task is pending
abbrev pub is_pending_in : Memory → ℕ → Bool
is_pending_in memory task = slice_index memory.lines.pending task == 1

-- that of each of so many tasks, in `task_limit` places; an unused place has false
abbrev pub pending_lines_in : Memory → ℕ → List Bool
pending_lines_in memory tasks = map (is_pending_in memory) (range_with_len 0 tasks) ++ replicate (task_limit - tasks) false

-- the level byte of the line of each of so many tasks, in `task_limit` places; an unused place has 0
abbrev pub levels_in : Memory → ℕ → List ℕ
levels_in memory tasks = map (λ task. slice_index memory.lines.levels task) (range_with_len 0 tasks) ++ replicate (task_limit - tasks) 0
