-- What the lines of a text are judged with, before the first one.
use Rattle.std.specs.Prelude.{◌≡◌, ◌≤◌, [], length}
use Rattle.sloth_base.specs.declared.config.Config.{Config}
use Rattle.sloth_base.specs.declared.app.App.{App}
use Rattle.sloth_base.specs.Limits.{counter_limit}
use Rattle.trace_check.specs.Timed.{KeptPass, TimedBy}
use Rattle.trace_check.specs.Walk.{IsWalked, Walk}
use Rattle.sloth_base.specs.DeclaredNames.{AreNamesOf}
use Rattle.sloth_base.specs.declared.config.DeclaredNames.{DeclaredNames}

-- these names, a walk before its first event, and a look at the arrivals before its first event
pub record IsBegun (config : Config) (app : App) (names : DeclaredNames) (walk : Walk) (timing : KeptPass) : Type 0 where
  pub named : AreNamesOf config app names
  pub few_counters : length config.counters ≤ counter_limit
  pub walked : IsWalked config app [] walk
  pub timed : TimedBy [] timing
  pub config_is : timing.config ≡ config
