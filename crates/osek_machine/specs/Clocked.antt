-- What is asked of the counters and alarms of a state, for arithmetic that stays in range.
use Rattle.std.specs.Prelude.{ℕ, ◌<◌, ◌≤◌, ◌≡◌, length}
use Rattle.sloth_base.specs.declared.config.Action.{Action}
use Rattle.sloth_base.specs.declared.config.Action.TheVariants as action
use Rattle.sloth_base.specs.declared.config.Config.{Config}
use Rattle.sloth_base.specs.Named.{counter_declaration, alarm_declaration}
use Rattle.osek_scheduler.specs.State.{System, counter}

-- the task of an action is one of so many
abbrev pub NamesTask : ℕ → Action → Type 0
NamesTask tasks (action.Activate t) = t < tasks
NamesTask tasks (action.Set t mask) = t < tasks

-- there is one of each for each declaration, and all numbers are in range
pub record IsClocked (config : Config) (s : System) : Type 0 where
  pub counters : length s.clock.counters ≡ length config.counters
  pub alarms : length s.clock.alarms ≡ length config.alarms
  pub values : (c : ℕ) → (counter s c).value ≤ (counter_declaration config c).max
  pub greatest : (c : ℕ) → (counter_declaration config c).max < 2147483648
  pub actions : (a : ℕ) → a < length config.alarms → NamesTask (length config.tasks) (alarm_declaration config a).action
