-- Which ticks make a task Ready, and which set its events.
use Rattle.std.specs.Prelude.{ℕ, ◌≤◌, ◌==◌, ◌&&◌, ◌||◌, List, [], ◌∷◌, Bool, false, cond}
use Rattle.sloth_base.specs.declared.config.Action.{Action}
use Rattle.sloth_base.specs.declared.config.Action.TheVariants as action
use Rattle.sloth_base.specs.declared.config.AlarmDecl.{AlarmDecl}
use Rattle.sloth_base.specs.declared.config.Config.{Config}
use Rattle.sloth_base.specs.declared.app.App.{App}
use Rattle.sloth_base.specs.declared.service.Stamped.{Stamped}
use Rattle.sloth_base.specs.Owners.{counter_line}
use Rattle.code_rules.specs.WellFormed.{WellFormed}
use Rattle.osek_scheduler.specs.Runs.{OsekRun}
use Rattle.run_counts.specs.Stages.{run_stages}
use Rattle.response_laws.specs.Demand.{Start}
use Rattle.response_laws.specs.Loaded.{HasAlarms}

-- the action activates task j
abbrev pub activates : (j : ℕ) → Action → Bool
activates j (action.Activate t) = t == j
activates j (action.Set t mask) = false

-- it sets events of task j
abbrev pub sets_events : (j : ℕ) → Action → Bool
sets_events j (action.Activate t) = false
sets_events j (action.Set t mask) = t == j

-- an alarm of counter c has an action that passes a test
abbrev pub has_alarm : (c : ℕ) → (Action → Bool) → List AlarmDecl → Bool
has_alarm c test [] = false
has_alarm c test (d ∷ ds) = ((d.counter == c) && test d.action) || has_alarm c test ds

-- for each tick that may come into a start one making, where an alarm of the counter may make the task
pub record HasTicks (config : Config) (s : Start) : Type 0 where
  pub acts : (c j : ℕ) → cond (has_alarm c (activates j) config.alarms) (s.inflow.arrivals (counter_line c)) 0 ≤ s.inflow.alarm_acts c j
  pub sets : (c j : ℕ) → cond (has_alarm c (sets_events j) config.alarms) (s.inflow.arrivals (counter_line c)) 0 ≤ s.inflow.alarm_sets c j

-- In every run of well-formed task code a tick makes a task Ready or sets its events once at most, and only where an alarm of its counter does so.
abbrev pub TicksMakeByAlarms : Type 0
TicksMakeByAlarms = (config : Config) (app : App) (events : List Stamped) (s : Start) → WellFormed config app → OsekRun config app events → HasTicks config s
    → HasAlarms (run_stages config app events) s
