-- Which items make a task Ready, and which set its events.
use Rattle.std.specs.Prelude.{ℕ, ◌==◌, Bool, cond, List}
use Rattle.std.specs.List.{AllByRecursion}
use Rattle.sloth_base.specs.declared.config.Config.{Config}
use Rattle.sloth_base.specs.declared.app.App.{App}
use Rattle.sloth_base.specs.declared.service.Stamped.{Stamped}
use Rattle.code_rules.specs.WellFormed.{WellFormed}
use Rattle.osek_scheduler.specs.Runs.{OsekRun}
use Rattle.bound_rules.specs.declared.bound.BodyWeights.{BodyWeights}
use Rattle.walk_sums.specs.Weights.{going_at, ending_at}
use Rattle.walk_sums.specs.declared.counted.Counted.TheVariants as counted
use Rattle.walk_sums.specs.Counted.{counted_weights}
use Rattle.run_counts.specs.Stages.{Stage, run_stages}
use Rattle.response_laws.specs.Turns.{activated, was_set}
use Rattle.response_laws.specs.Bounded.{EachFirst, EachNext}
use Rattle.response_laws.specs.Walked.{FirstRoundsSum, LaterRoundsSum, FitsItem}

-- Items of task t that make task j Ready to begin anew weigh 1: ActivateTask, where it goes on, and ChainTask, where the task leaves with it. Of its own
-- an ActivateTask makes nothing.
abbrev pub activation_weights : App → (t j : ℕ) → List BodyWeights
activation_weights app t j = counted_weights (cond (t == j) (counted.Chains j) (counted.Activations j)) app

-- items that set events of task j
abbrev pub setting_weights : App → (j : ℕ) → List BodyWeights
setting_weights app j = counted_weights (counted.Settings j) app

-- in every run of well-formed task code the events of task t make task j Ready to begin anew no more often than its items weigh
abbrev pub ItemsActivate : Type 0
ItemsActivate = (config : Config) (app : App) (events : List Stamped) (t j : ℕ) → WellFormed config app → OsekRun config app events
    → AllByRecursion (FitsItem t (activated j) (going_at (activation_weights app t j)) (ending_at (activation_weights app t j))) (run_stages config app events)

-- and they set events of it no more often
abbrev pub ItemsSet : Type 0
ItemsSet = (config : Config) (app : App) (events : List Stamped) (t j : ℕ) → WellFormed config app → OsekRun config app events
    → AllByRecursion (FitsItem t (was_set j) (going_at (setting_weights app j)) (ending_at (setting_weights app j))) (run_stages config app events)

-- what rounds of task k make of task j is within what walks weigh
pub record MakesWithin (app : App) (run : List Stage) (k j : ℕ) (cuts : Bool) (most : ℕ) : Type 0 where
  pub first_acts : FirstRoundsSum app cuts k (activation_weights app k j) most → EachFirst run cuts k (activated j) most
  pub next_acts : LaterRoundsSum app cuts k (activation_weights app k j) most → EachNext run cuts k (activated j) most
  pub first_sets : FirstRoundsSum app cuts k (setting_weights app j) most → EachFirst run cuts k (was_set j) most
  pub next_sets : LaterRoundsSum app cuts k (setting_weights app j) most → EachNext run cuts k (was_set j) most

-- in every run of well-formed task code
abbrev pub RoundsMakeWithin : Type 0
RoundsMakeWithin = (config : Config) (app : App) (events : List Stamped) (k j : ℕ) (cuts : Bool) (most : ℕ) → WellFormed config app → OsekRun config app events
    → MakesWithin app (run_stages config app events) k j cuts most
