-- What the bounds that are told promise of the runs of an image.
use Rattle.std.specs.Prelude.{ℕ, ◌*◌, ◌≤◌, ◌≡◌, List, [], ◌∷◌, ◌++◌, get_or}
use Rattle.sloth_base.specs.declared.config.Config.{Config}
use Rattle.sloth_base.specs.declared.app.App.{App}
use Rattle.sloth_base.specs.declared.service.Arrival.{Arrival}
use Rattle.sloth_base.specs.declared.service.Stamped.{Stamped}
use Rattle.sloth_base.specs.declared.image.Image.{Image}
use Rattle.sloth_base.specs.Limits.{item_counts}
use Rattle.osek_scheduler.specs.State.{System, opening}
use Rattle.osek_scheduler.specs.Runs.{AreStepsTo}
use Rattle.osek_blocking.specs.Blocking.{events_up_to_entry, MakesReady}
use Rattle.osek_blocking.specs.Pace.{last_count}
use Rattle.osek_blocking.specs.Spent.{spent_counts}
use Rattle.sim_induction.specs.Sound.{IsSoundRun, events_of}
use Rattle.bounds_text.specs.Kept.{WaitsForItems}
use Rattle.bound_rules.specs.declared.bound.Bound.{Bound}
use Rattle.bound_rules.specs.declared.bound.Bound.TheVariants as bound

-- ---- bounds

-- from each event that makes task h Ready up to its `enter` at most so many counts are spent on lower tasks
abbrev pub WaitsForCounts : Config → App → (h limit : ℕ) → List Stamped → Type 0
WaitsForCounts config app h limit events =
    (before behind : List Stamped) (made : Stamped) (found s : System) → events ≡ before ++ made ∷ behind
    → AreStepsTo config app before (opening config app) found → MakesReady config app h made.event found s
    → spent_counts config h (last_count 0 (before ++ made ∷ [])) (events_up_to_entry h behind) ≤ limit

-- task h waits for at most b items of lower tasks, and 200 counts for each
pub record WaitsFor (config : Config) (app : App) (h b : ℕ) (events : List Stamped) : Type 0 where
  pub items : WaitsForItems config app h b events
  pub counts : WaitsForCounts config app h (item_counts * b) events

-- in every sound run of an image of the task code each task of which a number is told waits for at most so many
abbrev pub RunsKeepAll : Config → App → List Bound → Type 0
RunsKeepAll config app bounds =
    (image : Image) (arrivals : List Arrival) (n : ℕ) → IsSoundRun config app image arrivals n
    → (h b : ℕ) → get_or bounds h bound.Endless ≡ bound.Items b → WaitsFor config app h b (events_of image arrivals n)
