-- Tasks that clear what they wait for have a setting for each later round.
use Rattle.std.specs.Prelude.{ℕ, List}
use Rattle.sloth_base.specs.declared.config.Config.{Config}
use Rattle.sloth_base.specs.declared.app.App.{App}
use Rattle.sloth_base.specs.declared.service.Stamped.{Stamped}
use Rattle.code_rules.specs.WellFormed.{WellFormed}
use Rattle.osek_scheduler.specs.Runs.{OsekRun}
use Rattle.walk_sums.specs.Rounds.{IsClean}
use Rattle.run_counts.specs.Stages.{run_stages}
use Rattle.response_laws.specs.Bounded.{HasSettings, HasSettingsButOne}

-- in every run of well-formed task code
abbrev pub CleanTasksHaveSettings : Type 0
CleanTasksHaveSettings = (config : Config) (app : App) (events : List Stamped) (t : ℕ) → WellFormed config app → OsekRun config app events → IsClean app t
    → HasSettings (run_stages config app events) t

-- and in any part of a run, but for one
abbrev pub CleanTasksHaveSettingsButOne : Type 0
CleanTasksHaveSettingsButOne = (config : Config) (app : App) (events : List Stamped) (t : ℕ) → WellFormed config app → OsekRun config app events → IsClean app t
    → HasSettingsButOne (run_stages config app events) t
