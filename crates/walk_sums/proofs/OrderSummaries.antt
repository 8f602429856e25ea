-- Summaries of the functions of an order.
use Rattle.std.specs.Prelude.{ℕ, ◌≡◌, true, List, length, Option}
use Rattle.sloth_base.specs.declared.config.Config.{Config}
use Rattle.sloth_base.specs.declared.app.App.{App}
use Rattle.code_rules.specs.Code.{is_in}
use Rattle.bound_rules.specs.declared.bound.Summary.{Summary}
use Rattle.bound_rules.specs.declared.bound.BodyWeights.{BodyWeights}
use Rattle.bound_rules.specs.Summaries.{summary_of, AreCountedUp}
use Rattle.walk_sums.specs.declared.levels.Kind.{Kind}
use Rattle.walk_sums.specs.Known.{IsSummary}

-- the summaries of those functions that are among these
pub record AreSummariesOf (config : Config) (app : App) (weights : List BodyWeights) (kind : Kind) (level : Option ℕ) (funcs : List ℕ) (table : List Summary) : Type 0 where
  pub count : length table ≡ length app.funcs
  pub small : AreCountedUp table
  pub each : (f : ℕ) → is_in f funcs ≡ true → IsSummary config app weights kind level f (summary_of table f)
