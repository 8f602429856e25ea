-- The interrupt controller mirrors the abstract scheduler (Sloth, RTSS 2009; Sleepy Sloth, RTSS 2011). Said of a state that finds
-- MIE 1, after the arrivals of its count and before a line is taken.
use Rattle.std.specs.Prelude.{ℕ, ◌+◌, ◌<◌, ◌≤◌, ◌≡◌, cond, length, slice_index}
use Rattle.sloth_base.specs.declared.config.Config.{Config}
use Rattle.sloth_base.specs.Machine.{Core}
use Rattle.sloth_base.specs.Owners.{counter_line}
use Rattle.sloth_base.specs.PriorityLevels.{level_of}
use Rattle.rv32_instr.specs.Ram.{word_at}
use Rattle.osek_scheduler.specs.declared.state.TaskState.TheVariants as mode
use Rattle.osek_scheduler.specs.State.{System, task, counter}
use Rattle.sloth_base.specs.Named.{declaration}
use Rattle.osek_scheduler.specs.Priority.{current_priority}

-- the current priority of a task
abbrev pub priority_of : Config → System → ℕ → ℕ
priority_of config s t = current_priority config (declaration config t) (task s t)

-- an Active task, of the greatest current priority of the Active ones
pub record IsRunningTask (config : Config) (s : System) (t : ℕ) : Type 0 where
  pub declared : t < length config.tasks
  pub active : (task s t).state ≡ mode.Active
  pub is_greatest : (u : ℕ) → u < length config.tasks → (task s u).state ≡ mode.Active → priority_of config s u ≤ priority_of config s t

-- no task is Active
abbrev pub NoneIsActive : Config → System → Type 0
NoneIsActive config s = (t : ℕ) → t < length config.tasks → ¬ ((task s t).state ≡ mode.Active)

-- the controller's bytes, the running level and the first word of memory say what the system is
pub record Mirror (config : Config) (core : Core) (s : System) : Type 0 where
  pub suspended : (t : ℕ) → t < length config.tasks → (task s t).state ≡ mode.Suspended
      → (slice_index core.enabled t ≡ 1) × (slice_index core.pending t ≡ 0)
  pub ready : (t : ℕ) → t < length config.tasks → (task s t).state ≡ mode.Ready
      → (slice_index core.enabled t ≡ 1) × (slice_index core.pending t ≡ 1)
  pub waiting : (t mask : ℕ) → t < length config.tasks → (task s t).state ≡ mode.Waiting mask → slice_index core.enabled t ≡ 0
  -- the running level is that of the running task's current priority, and the first word of memory names the task
  pub running : (t : ℕ) → IsRunningTask config s t → (core.ilevel ≡ level_of config (priority_of config s t)) × (word_at core.ram 0 ≡ t + 1)
  -- a counter's line is enabled, and pending exactly where the counter is due
  pub counters : (c : ℕ) → c < length config.counters
      → (slice_index core.enabled (counter_line c) ≡ 1) × (slice_index core.pending (counter_line c) ≡ cond (counter s c).due 1 0)
  pub idle : NoneIsActive config s → (core.ilevel ≡ 0) × (word_at core.ram 0 ≡ 0)
