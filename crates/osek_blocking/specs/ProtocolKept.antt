-- Laws of the runs of the abstract scheduler.
use Rattle.std.specs.Prelude.{List}
use Rattle.sloth_base.specs.declared.config.Config.{Config}
use Rattle.sloth_base.specs.declared.app.App.{App}
use Rattle.sloth_base.specs.declared.service.Stamped.{Stamped}
use Rattle.code_rules.specs.WellFormed.{WellFormed}
use Rattle.osek_scheduler.specs.Runs.{OsekRun}
use Rattle.osek_blocking.specs.Blocking.{BlocksOnce}
use Rattle.osek_blocking.specs.Protocol.{AlwaysExcludes, AlwaysGets, KeepsCeilingProtocol}

-- in every run a Ready task is blocked by one lower task at most
abbrev pub RunsBlockOnce : Type 0
RunsBlockOnce = (config : Config) (app : App) (events : List Stamped) → OsekRun config app events → BlocksOnce config app events

-- in every state of a run of well-formed task code resources are held by one task at a time
abbrev pub RunsExclude : Type 0
RunsExclude = (config : Config) (app : App) (events : List Stamped)
    → WellFormed config app → OsekRun config app events → AlwaysExcludes config app events

-- in every run GetResource has status E_OK at each of its events
abbrev pub ResourcesAreGot : Type 0
ResourcesAreGot = (config : Config) (app : App) (events : List Stamped) → OsekRun config app events → AlwaysGets events

-- every run of well-formed task code keeps the priority ceiling protocol
abbrev pub RunsKeepCeilingProtocol : Type 0
RunsKeepCeilingProtocol = (config : Config) (app : App) (events : List Stamped)
    → WellFormed config app → OsekRun config app events → KeepsCeilingProtocol config app events
