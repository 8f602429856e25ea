-- Laws of the bounds of runs.
use Rattle.std.specs.Prelude.{List}
use Rattle.sloth_base.specs.declared.config.Config.{Config}
use Rattle.sloth_base.specs.declared.app.App.{App}
use Rattle.sloth_base.specs.declared.service.Stamped.{Stamped}
use Rattle.code_rules.specs.WellFormed.{WellFormed}
use Rattle.osek_scheduler.specs.Runs.{OsekRun}
use Rattle.osek_blocking.specs.Kept.{KeepsBounds}
use Rattle.osek_blocking.specs.Pace.{IsPaced}
use Rattle.osek_blocking.specs.Spent.{KeepsCounts}

-- every run of well-formed task code keeps the bounds
abbrev pub RunsKeepBounds : Type 0
RunsKeepBounds = (config : Config) (app : App) (events : List Stamped)
    → WellFormed config app → OsekRun config app events → KeepsBounds config app events

-- where each event but the boot ends soon behind the event before it, the bounds are kept in counts too
abbrev pub RunsKeepCounts : Type 0
RunsKeepCounts = (config : Config) (app : App) (events : List Stamped)
    → WellFormed config app → OsekRun config app events → IsPaced 0 events → KeepsCounts config app events
