-- What boot leaves.
use Rattle.std.specs.Prelude.{ℕ, ◌+◌, ◌<◌, ◌≡◌, length, slice_index, true, false, cond}
use Rattle.sloth_base.specs.Machine.{State}
use Rattle.sloth_region.specs.Layout.{idle_context, context_bytes}
use Rattle.osek_scheduler.specs.State.{System, opening, opening_clock}
use Rattle.sloth_base.specs.Named.{declaration}
use Rattle.osek_scheduler.specs.Steps.{settled_state, autostarted_tasks}
use Rattle.sloth_base.specs.PriorityLevels.{level_of}
use Rattle.sloth_base.specs.MemoryMap.{memory_base}
use Rattle.sloth_base.specs.Owners.{line_kind, owners_in}
use Rattle.sloth_base.specs.declared.numbers.LineKind.TheVariants as line_of
use Rattle.sim_relation.specs.Build.{Build}
use Rattle.sim_relation.specs.ClockStands.{CounterLineStands, ClockStands, IsBesideClock}
use Rattle.sim_relation.specs.DataStands.{DataStands}
use Rattle.sim_relation.specs.Stands.{IsFixed}

-- the abstract state after the system has started
abbrev pub started_system : Build → System
started_system b = settled_state (record (opening b.config b.app) { tasks = autostarted_tasks b.config.tasks (opening b.config b.app).tasks; booted = true })

-- The idle loop is next, and the lines of autostarted tasks are pending. The words of the declared counters and alarms say the clock
-- with which the configuration opens; outside the bytes of the clock (364 to 627) all service words before the idle loop's context are zero. The
-- bytes of code and data are the image's.
pub record Starts (b : Build) (state : State) : Type 0 where
  pub pc : state.pc ≡ b.idle
  pub level : state.core.ilevel ≡ 0
  pub x2 : slice_index state.core.registers 2 ≡ memory_base + (idle_context + context_bytes)
  pub fixed : IsFixed b state.core
  pub service_words : (i : ℕ) → i < idle_context → IsBesideClock i → slice_index state.core.ram i ≡ 0
  pub clock : ClockStands b.config state.core.ram (opening_clock b.config)
  pub pending : (t : ℕ) → t < length b.config.tasks → slice_index state.core.pending t ≡ cond (declaration b.config t).autostart 1 0
  pub enabled : (t : ℕ) → t < length b.config.tasks → slice_index state.core.enabled t ≡ 1
  pub counters : (c : ℕ) → c < length b.config.counters → CounterLineStands b.config state.core c false
  pub other_enabled : (line : ℕ) → line_kind (owners_in b.config) line ≡ line_of.Unused → slice_index state.core.enabled line ≡ 0
  pub levels : (t : ℕ) → t < length b.config.tasks → slice_index state.core.levels t ≡ level_of b.config (declaration b.config t).priority
  pub data_stands : DataStands b state.core.ram (opening b.config b.app).symbols
