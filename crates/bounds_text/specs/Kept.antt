-- What the bounds that are told promise of the runs of the abstract scheduler.
use Rattle.std.specs.Prelude.{ℕ, ◌≤◌, ◌≡◌, List, ◌∷◌, ◌++◌, get_or}
use Rattle.sloth_base.specs.declared.config.Config.{Config}
use Rattle.sloth_base.specs.declared.app.App.{App}
use Rattle.sloth_base.specs.declared.service.Stamped.{Stamped}
use Rattle.osek_scheduler.specs.State.{System, opening}
use Rattle.osek_scheduler.specs.Runs.{AreStepsTo, OsekRun}
use Rattle.osek_blocking.specs.Blocking.{events_up_to_entry, MakesReady}
use Rattle.osek_blocking.specs.Kept.{lower_events}
use Rattle.bound_rules.specs.declared.bound.Bound.{Bound}
use Rattle.bound_rules.specs.declared.bound.Bound.TheVariants as bound

-- from each event that makes task h Ready up to its `enter` there are at most b `run` and `call` events of tasks of lower static priority
abbrev pub WaitsForItems : Config → App → (h b : ℕ) → List Stamped → Type 0
WaitsForItems config app h b events =
    (before behind : List Stamped) (made : Stamped) (found s : System) → events ≡ before ++ made ∷ behind
    → AreStepsTo config app before (opening config app) found → MakesReady config app h made.event found s → lower_events config h (events_up_to_entry h behind) ≤ b

-- in every run of the abstract scheduler each task of which a number is told waits for at most so many
abbrev pub RunsKeepTold : Config → App → List Bound → Type 0
RunsKeepTold config app bounds =
    (events : List Stamped) → OsekRun config app events → (h b : ℕ) → get_or bounds h bound.Endless ≡ bound.Items b → WaitsForItems config app h b events
