-- The sums of the rounds of a task that is clean.
use Rattle.std.proofs.Common.{◌≡◌, ℕ, Bool, true, false, List, refl, sym, subst}
use Rattle.sloth_base.specs.declared.app.App.{App}
use Rattle.bound_rules.specs.declared.bound.BodyWeights.{BodyWeights}
use Rattle.walk_sums.specs.declared.sections.RoundSums.{RoundSums}
use Rattle.walk_sums.specs.Told.{AreToldRounds}
use Rattle.run_costs.specs.Rounds.{AreRounds}
use Rattle.run_costs.specs.Tables.{rounds_by}

clean_by : (app : App) (t : ℕ) (weights : List BodyWeights) (sums : RoundSums) (extended : Bool) → AreToldRounds app t weights sums → AreRounds app true extended t weights (rounds_by extended sums)
clean_by app t weights sums true are = are
clean_by app t weights sums false are = (sums.later, are, refl)

pub clean_rounds : (app : App) (t : ℕ) (weights : List BodyWeights) (sums told : RoundSums) (extended : Bool) → AreToldRounds app t weights sums → told ≡ rounds_by extended sums
    → AreRounds app true extended t weights told
clean_rounds app t weights sums told extended are e = subst (AreRounds app true extended t weights) (sym e) (clean_by app t weights sums extended are)
