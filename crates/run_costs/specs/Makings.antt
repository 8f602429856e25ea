-- How the makings of rounds are put together.
use Rattle.std.specs.Prelude.{ℕ, ◌<◌, false, Bool, List, length, get_or, Decides}
use Rattle.sloth_base.specs.declared.config.Config.{Config}
use Rattle.sloth_base.specs.declared.app.App.{App}
use Rattle.sloth_base.specs.Named.{declaration}
use Rattle.bound_rules.specs.declared.bound.BodyWeights.{BodyWeights}
use Rattle.walk_sums.specs.declared.counted.Counted.{Counted}
use Rattle.walk_sums.specs.declared.counted.Counted.TheVariants as counts
use Rattle.walk_sums.specs.declared.sections.RoundSums.{RoundSums}
use Rattle.walk_sums.specs.Counted.{counted_weights}
use Rattle.walk_sums.specs.Rounds.{IsClean, IsSteady}
use Rattle.run_costs.specs.Rounds.{AreRounds}
use Rattle.run_costs.specs.Tables.{no_sums}
use Rattle.run_costs.specs.CostsOf.{AreEach}

-- which tasks are clean
abbrev pub AreCleanMarks : Config → App → List Bool → Type 0
AreCleanMarks config app clean = (t : ℕ) → t < length config.tasks → Decides (get_or clean t false) (IsClean app t)

-- and which ones no walk of theirs lets others run in
abbrev pub AreSteadyMarks : Config → App → List Bool → Type 0
AreSteadyMarks config app steady = (t : ℕ) → t < length config.tasks → Decides (get_or steady t false) (IsSteady config app t)

-- the greatest sums of the rounds of each task
abbrev pub AreRoundSums : Config → App → (clean : List Bool) → List BodyWeights → List RoundSums → Type 0
AreRoundSums config app clean weights sums =
    AreEach (length config.tasks) no_sums (λ t. AreRounds app (get_or clean t false) (declaration config t).extended t weights) sums

-- how often the rounds of each task do what counts
abbrev pub AreCountedSums : Config → App → (clean : List Bool) → Counted → List RoundSums → Type 0
AreCountedSums config app clean c sums =
    (t : ℕ) → t < length config.tasks → AreRounds app (get_or clean t false) (declaration config t).extended t (counted_weights c app) (get_or sums t no_sums)

-- the sums of the rounds of all tasks, of what makes one task Ready: activations of other tasks, its own ChainTask, and settings of its events
pub record MakingSums : Type 0 where
  pub activations : List RoundSums
  pub chains : List RoundSums
  pub settings : List RoundSums

-- of what makes task j Ready
pub record AreMakingSums (config : Config) (app : App) (clean : List Bool) (j : ℕ) (sums : MakingSums) : Type 0 where
  pub activations : AreCountedSums config app clean (counts.Activations j) sums.activations
  pub chains : AreCountedSums config app clean (counts.Chains j) sums.chains
  pub settings : AreCountedSums config app clean (counts.Settings j) sums.settings
