-- What a verdict on a text says.
use Rattle.std.specs.Prelude.{ℕ, List}
use Rattle.sloth_base.specs.DeclaredNames.{task_names, counter_names, function_names}
use Rattle.sloth_base.specs.declared.config.Config.{Config}
use Rattle.sloth_base.specs.declared.app.App.{App}
use Rattle.sloth_base.specs.declared.service.Arrival.{Arrival}
use Rattle.sloth_base.specs.declared.service.Stamped.{Stamped}
use Rattle.osek_scheduler.specs.Runs.{OsekRun}
use Rattle.osek_scheduler.specs.InTime.{InTime}
use Rattle.trace_check.specs.TraceText.{IsEventText}
use Rattle.trace_check.specs.Walk.{HasStrayAt}

-- the text is that of a run of n instructions with these arrivals
pub record Checked (config : Config) (app : App) (arrivals : List Arrival) (text : List ℕ) (n : ℕ) : Type 0 where
  pub events : List Stamped
  pub shows : IsEventText (task_names config) (function_names app) (counter_names config) events text
  pub run : OsekRun config app events
  pub in_time : InTime config n arrivals events

-- all lines are events', and line k is the first with which the events are no run
pub record IsFirstStray (config : Config) (app : App) (text : List ℕ) (k : ℕ) : Type 0 where
  pub events : List Stamped
  pub shows : IsEventText (task_names config) (function_names app) (counter_names config) events text
  pub strays : HasStrayAt config app events k

-- the events are a run, and not in time
pub record IsLate (config : Config) (app : App) (arrivals : List Arrival) (text : List ℕ) (n : ℕ) : Type 0 where
  pub events : List Stamped
  pub shows : IsEventText (task_names config) (function_names app) (counter_names config) events text
  pub run : OsekRun config app events
  pub late : InTime config n arrivals events → ⊥
