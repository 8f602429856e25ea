-- Tables of summaries by which rounds are summed.
use Rattle.std.specs.Prelude.{ℕ, ◌<◌, ◌≡◌, cond, false, Bool, List, length, get_or, None}
use Rattle.sloth_base.specs.declared.config.Config.{Config}
use Rattle.sloth_base.specs.declared.app.App.{App}
use Rattle.bound_rules.specs.declared.bound.Summary.{Summary}
use Rattle.bound_rules.specs.declared.bound.BodyWeights.{BodyWeights}
use Rattle.walk_sums.specs.declared.levels.Kind.TheVariants as kinds
use Rattle.walk_sums.specs.declared.sections.Sum.{Sum}
use Rattle.walk_sums.specs.declared.sections.Sum.TheVariants as sum
use Rattle.walk_sums.specs.declared.sections.RoundSums.{RoundSums}
use Rattle.walk_sums.specs.Known.{AreSums}

-- rounds in which nothing counts
abbrev pub no_sums : RoundSums
no_sums = record { first = sum.Counts 0; later = sum.Counts 0 }

-- the same sum twice
abbrev pub both : Sum → RoundSums
both s = record { first = s; later = s }

-- of a basic task that of its first rounds
abbrev pub rounds_by : (extended : Bool) → RoundSums → RoundSums
rounds_by extended sums = cond extended sums (both sums.first)

-- the summaries of turns, where some task is not clean
abbrev pub AreTurns : Config → App → List BodyWeights → (clean : List Bool) → List Summary → Type 0
AreTurns config app weights clean turns = (t : ℕ) → t < length config.tasks → get_or clean t false ≡ false → AreSums config app weights kinds.Turns None turns
