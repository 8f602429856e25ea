-- What a run of an image shows of its tasks.
use Rattle.std.specs.Prelude.{ℕ, ◌<◌, ◌≡◌, List, true, filter, length, get_or, Some}
use Rattle.sloth_base.specs.declared.config.Config.{Config}
use Rattle.sloth_base.specs.declared.app.App.{App}
use Rattle.sloth_base.specs.declared.image.Image.{Image}
use Rattle.sloth_base.specs.declared.service.Arrival.{Arrival}
use Rattle.sloth_base.specs.Owners.{owners_in}
use Rattle.sloth_base.specs.Machine.{Core, State}
use Rattle.rv32_instr.specs.Memory.{memory_of}
use Rattle.rv32_machine.specs.Start.{start}
use Rattle.rv32_machine.specs.Run.{state_after, state_with_arrivals}
use Rattle.rv32_instr.specs.Ram.{word_at}
use Rattle.sloth_region.specs.Layout.{events, counter_value, alarm_left}
use Rattle.osek_scheduler.specs.State.{System, task, opening, no_counter, no_alarm}
use Rattle.osek_scheduler.specs.Runs.{AreStepsTo}
use Rattle.sloth_inspect.specs.States.{state_in}
use Rattle.sim_induction.specs.Sound.{AreComing, events_of, stands_before}
use Rattle.sim_relation.specs.Build.{Build}
use Rattle.sim_laws.specs.Kernel.{Kernel}

-- the machine shows the state of each task, with the mask of one that waits
abbrev pub AreTaskStates : Config → Core → System → Type 0
AreTaskStates config core s = (t : ℕ) → t < length config.tasks → state_in (memory_of core) t ≡ (task s t).state

-- the service words say which events of each task are set
abbrev pub AreTaskEvents : Config → Core → System → Type 0
AreTaskEvents config core s = (t : ℕ) → t < length config.tasks → word_at core.ram (events t) ≡ (task s t).events

-- the value of each counter
abbrev pub AreCounterValues : Config → Core → System → Type 0
AreCounterValues config core s = (c : ℕ) → c < length config.counters → word_at core.ram (counter_value c) ≡ (get_or s.clock.counters c no_counter).value

-- and the ticks that each alarm has left, 0 where it is not in use
abbrev pub AreAlarmTicks : Config → Core → System → Type 0
AreAlarmTicks config core s = (a : ℕ) → a < length config.alarms → word_at core.ram (alarm_left a) ≡ (get_or s.clock.alarms a no_alarm).left

-- the machine shows the tasks' states and events, the counters' values and the alarms' ticks
pub record ShowsSystem (config : Config) (core : Core) (s : System) : Type 0 where
  pub task_states : AreTaskStates config core s
  pub task_events : AreTaskEvents config core s
  pub counter_values : AreCounterValues config core s
  pub alarm_ticks : AreAlarmTicks config core s

-- At each count of a run that finds MIE 1 the machine shows, with the arrivals of the count, the tasks, counters and alarms of the system that the
-- events before the count lead to.
pub record HasTaskStates (config : Config) (app : App) (image : Image) : Type 0 where
  pub each : (arrivals : List Arrival) (n count : ℕ) (state : State) (s : System) → AreComing (owners_in config) arrivals
      → count < n → state_after count arrivals (start image) ≡ Some state → state.core.mie ≡ true
      → AreStepsTo config app (filter (stands_before count) (events_of image arrivals n)) (opening config app) s
      → ShowsSystem config (state_with_arrivals arrivals count state).core s

-- a kernel in place does
abbrev pub KernelHasTaskStates : Type 0
KernelHasTaskStates = (b : Build) (image : Image) → Kernel b image → HasTaskStates b.config b.app image
