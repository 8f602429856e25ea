-- The names of what a configuration and task code declare, in the order of their numbers.
use Rattle.std.specs.Prelude.{ℕ, ◌≡◌, List, map}
use Rattle.sloth_base.specs.declared.app.App.{App}
use Rattle.sloth_base.specs.declared.config.Config.{Config}
use Rattle.sloth_base.specs.declared.config.DeclaredNames.{DeclaredNames}

-- the names of the tasks
abbrev pub task_names : Config → List (List ℕ)
task_names config = map (λ t. t.name) config.tasks

-- the names of the events
abbrev pub event_names : Config → List (List ℕ)
event_names config = map (λ e. e.name) config.events

-- the names of the counters
abbrev pub counter_names : Config → List (List ℕ)
counter_names config = map (λ c. c.name) config.counters

-- the names of the alarms
abbrev pub alarm_names : Config → List (List ℕ)
alarm_names config = map (λ a. a.name) config.alarms

-- the names of the functions
abbrev pub function_names : App → List (List ℕ)
function_names app = map (λ f. f.name) app.funcs

-- these are the names of the tasks, the functions and the counters
pub record AreNamesOf (config : Config) (app : App) (names : DeclaredNames) : Type 0 where
  pub tasks : names.tasks ≡ task_names config
  pub funcs : names.funcs ≡ function_names app
  pub counters : names.counters ≡ counter_names config
