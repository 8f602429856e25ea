-- How many counts lower tasks spend while a task is Ready, by the weights of their items.
use Rattle.std.specs.Prelude.{ℕ, ◌+◌, ◌<◌, ◌≤◌, ◌≡◌, List, [], ◌∷◌, ◌++◌, length}
use Rattle.sloth_base.specs.Named.{function, operation}
use Rattle.sloth_base.specs.declared.config.Config.{Config}
use Rattle.sloth_base.specs.declared.app.App.{App}
use Rattle.sloth_base.specs.declared.service.Stamped.{Stamped}
use Rattle.code_rules.specs.WellFormed.{WellFormed}
use Rattle.osek_scheduler.specs.State.{System, opening}
use Rattle.osek_scheduler.specs.Runs.{AreStepsTo, OsekRun}
use Rattle.osek_blocking.specs.Blocking.{events_up_to_entry, MakesReady}
use Rattle.osek_blocking.specs.Pace.{last_count}
use Rattle.osek_blocking.specs.Sections.{IsSection, IsLower}
use Rattle.osek_blocking.specs.Spent.{spent_counts}
use Rattle.bound_rules.specs.declared.bound.BodyWeights.{BodyWeights}
use Rattle.bound_rules.specs.Weights.{going_weight, ending_weight}
use Rattle.walk_sums.specs.Told.{NoneIsAbove}
use Rattle.sim_induction.specs.Items.{going_counts}
use Rattle.sim_induction.specs.Pace.{ItemSizes}
use Rattle.sim_induction.specs.Paced.{KeepsPace}

-- an item weighs at least its instructions and what its service takes, and where a section ends with it no less
pub record WeighsItems (app : App) (size : ItemSizes) (weights : List BodyWeights) : Type 0 where
  pub item : (f i : ℕ) → i < length (function app f).items → size f i + going_counts (operation app f i) ≤ going_weight weights f i
  pub no_lighter : (f i : ℕ) → going_weight weights f i ≤ ending_weight weights f i

-- no section of a lower task for h has a larger sum
abbrev pub NoSumIsAbove : Config → App → (weights : List BodyWeights) → (h most : ℕ) → Type 0
NoSumIsAbove config app weights h most = (k : ℕ) → IsLower config h k → NoneIsAbove (IsSection config app h k) weights most

-- From each event that makes a task h Ready up to its `enter` lower tasks spend at most one item, of the service that was running as an arrival made h
-- Ready, and a section.
abbrev pub SpendsOnLower : Config → App → (weights : List BodyWeights) → (heaviest : ℕ) → List Stamped → Type 0
SpendsOnLower config app weights heaviest events =
    (before behind : List Stamped) (made : Stamped) (h most : ℕ) (found s : System) → events ≡ before ++ made ∷ behind
    → AreStepsTo config app before (opening config app) found → MakesReady config app h made.event found s
    → NoSumIsAbove config app weights h most
    → spent_counts config h (last_count 0 (before ++ made ∷ [])) (events_up_to_entry h behind) ≤ heaviest + most

-- no task is lower
abbrev pub NoneIsLower : Config → (h : ℕ) → Type 0
NoneIsLower config h = (k : ℕ) → ¬ (IsLower config h k)

-- where no task is lower than h, in every run, nothing is spent on lower ones
abbrev pub RunsSpendNothing : Type 0
RunsSpendNothing = (config : Config) (app : App) (events : List Stamped) → WellFormed config app → OsekRun config app events
    → (before behind : List Stamped) (made : Stamped) (h : ℕ) (found s : System) → events ≡ before ++ made ∷ behind
    → AreStepsTo config app before (opening config app) found → MakesReady config app h made.event found s → NoneIsLower config h
    → spent_counts config h (last_count 0 (before ++ made ∷ [])) (events_up_to_entry h behind) ≡ 0

-- every run that keeps the pace does so
abbrev pub RunsSpendOnLower : Type 0
RunsSpendOnLower = (config : Config) (app : App) (size : ItemSizes) (longest n heaviest : ℕ) (weights : List BodyWeights) (events : List Stamped)
    → WellFormed config app → OsekRun config app events → KeepsPace config app size longest n events
    → WeighsItems app size weights → ((f i : ℕ) → going_weight weights f i ≤ heaviest)
    → SpendsOnLower config app weights heaviest events
