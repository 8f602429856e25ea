-- What a stage spends is within the weights.
use Rattle.std.specs.Prelude.{ℕ, ◌≤◌, ◌≡◌, List, false}
use Rattle.std.specs.List.{AllByRecursion}
use Rattle.sloth_base.specs.declared.config.Config.{Config}
use Rattle.sloth_base.specs.declared.app.App.{App}
use Rattle.sloth_base.specs.declared.service.Stamped.{Stamped}
use Rattle.sloth_base.specs.Events.{is_boot}
use Rattle.osek_scheduler.specs.InTime.{is_admit}
use Rattle.osek_scheduler.specs.Runs.{OsekRun}
use Rattle.sim_induction.specs.Pace.{ItemSizes, paced_counts}
use Rattle.sim_induction.specs.Paced.{KeepsPace}
use Rattle.run_counts.specs.Stages.{Stage, charged, run_stages}

-- Of an event of a task's turn all counts behind the event before it are the task's own, and at most those of its item. An entry and a tick come behind
-- at most the longest item, whichever task has begun it.
abbrev pub IsWithinWeights : Config → App → ItemSizes → (longest : ℕ) → Stage → Type 0
IsWithinWeights config app size longest x =
    is_admit x.stamped ≡ false → is_boot x.stamped.event ≡ false → charged x ≤ paced_counts config app size longest x.found x.stamped.event

-- each stage of a run that keeps the pace is
abbrev pub RunsKeepWeights : Type 0
RunsKeepWeights = (config : Config) (app : App) (size : ItemSizes) (longest n : ℕ) (events : List Stamped)
    → OsekRun config app events → KeepsPace config app size longest n events
    → AllByRecursion (IsWithinWeights config app size longest) (run_stages config app events)
