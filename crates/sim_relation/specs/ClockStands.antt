-- The lines of counters, and the words of counters and alarms among the service words.
use Rattle.std.specs.Prelude.{ℕ, ◌+◌, ◌<◌, ◌≤◌, ◌≡◌, ◌⊎◌, Bool, List, cond, length, get_or, slice_index}
use Rattle.sloth_base.specs.declared.config.Config.{Config}
use Rattle.sloth_base.specs.Machine.{Core}
use Rattle.sloth_base.specs.Owners.{counter_line}
use Rattle.sloth_region.specs.Layout.{counter_value, alarm_left, alarm_cycle, below_word}
use Rattle.rv32_instr.specs.Ram.{word_at}
use Rattle.osek_scheduler.specs.State.{Clock, no_counter, no_alarm}

-- a counter's line is enabled, pending exactly where the counter is due, and of a level above those of all tasks
pub record CounterLineStands (config : Config) (core : Core) (c : ℕ) (due : Bool) : Type 0 where
  pub enabled : slice_index core.enabled (counter_line c) ≡ 1
  pub pending : slice_index core.pending (counter_line c) ≡ cond due 1 0
  pub level : slice_index core.levels (counter_line c) ≡ length config.tasks + 1

-- each counter's line does so
abbrev pub CountersStand : Config → Core → Clock → Type 0
CountersStand config core clock = (c : ℕ) → c < length config.counters → CounterLineStands config core c (get_or clock.counters c no_counter).due

-- the words of each counter and each alarm of the configuration say what the clock does
pub record ClockStands (config : Config) (ram : List ℕ) (clock : Clock) : Type 0 where
  pub counters : length clock.counters ≡ length config.counters
  pub alarms : length clock.alarms ≡ length config.alarms
  pub values : (c : ℕ) → c < length config.counters → word_at ram (counter_value c) ≡ (get_or clock.counters c no_counter).value
  pub left : (a : ℕ) → a < length config.alarms → word_at ram (alarm_left a) ≡ (get_or clock.alarms a no_alarm).left
  pub cycles : (a : ℕ) → a < length config.alarms → word_at ram (alarm_cycle a) ≡ (get_or clock.alarms a no_alarm).cycle

-- an offset before the words of the clock, or behind them
abbrev pub IsBesideClock : ℕ → Type 0
IsBesideClock i = (i < counter_value 0) ⊎ (below_word ≤ i)
