-- The sections of tasks, by the counts of items, and their bounds.
use Rattle.std.proofs.Common.{◌≡◌, ℕ, ◌<◌, List, Option, Some, None, sym, ap, subst, arith}
use Rattle.std.specs.Prelude.{unwrap_or}
use Rattle.sloth_base.specs.declared.config.Config.{Config}
use Rattle.sloth_base.specs.declared.app.App.{App}
use Rattle.load_text.specs.declared.load_line.Entry.{Entry}
use Rattle.bound_rules.specs.declared.bound.BodyWeights.{BodyWeights}
use Rattle.run_counts.specs.Counts.{AreCounts}
use Rattle.run_windows.specs.Costs.{section}
use Rattle.run_costs.specs.CostsOf.{IsTaskSection}
use Rattle.run_costs.specs.RunRecord.{IsRunRecord}
use Rattle.run_windows.specs.declared.costs.RunCosts.{RunCosts}
use Rattle.bounds_text.proofs.OneLowerCounts.{same-weights}
use Rattle.response_text.specs.PartNames.{AreOwnSections}

-- those of a record are of all such weights, since these are one list
pub own_sections : (config : Config) (app : App) (load : List Entry) (costs : RunCosts) (weights : List BodyWeights) → IsRunRecord config app load costs → AreCounts app weights
    → AreOwnSections config app weights costs.costs
own_sections config app load costs weights is counts h above k inside =
    subst (λ (w : List BodyWeights). IsTaskSection config app w h k (section costs.costs h k)) (same-weights app is.costs.weights weights is.costs.are_counts counts)
    ((is.costs.levels.each h above).sections.each k inside)

-- a bound that is told as 0 where there is none
pub known_bound : (bound : Option ℕ) (n : ℕ) → n ≡ unwrap_or bound 0 → 0 < n → bound ≡ Some n
known_bound (Some m) n e some = ap Some (sym e)
known_bound None n e some = absurd (let wrong : ⊥ = omega (arith, e, some) in wrong)
