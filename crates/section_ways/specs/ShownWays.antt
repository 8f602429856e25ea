-- What is shown of a bound of a task.
use Rattle.std.specs.Prelude.{ℕ, suc, ◌≡◌, List, length, Option, Some, None}
use Rattle.sloth_base.specs.declared.config.Config.{Config}
use Rattle.sloth_base.specs.declared.app.App.{App}
use Rattle.bound_rules.specs.declared.bound.Bound.{Bound}
use Rattle.bound_rules.specs.declared.bound.Bound.TheVariants as bound
use Rattle.walk_sums.specs.declared.standing.Point.{Point}
use Rattle.section_ways.specs.declared.ways.Way.{Way}
use Rattle.section_ways.specs.SectionWays.{IsSectionWay, IsCycleWay}

-- the points of lower task t of which a bound of task h is made: of one in items a section of one item less, so a greatest one; of one without limit a cycle
abbrev pub ArePointsOf : Config → App → (h : ℕ) → Bound → (t : ℕ) → List Point → Type 0
ArePointsOf config app h (bound.Items n) t points = IsSectionWay config app h t points × (suc (length points) ≡ n)
ArePointsOf config app h bound.Huge t points = ⊥
ArePointsOf config app h bound.Endless t points = IsCycleWay config app h t points

-- a task and its points, if they are found
abbrev pub IsShown : Config → App → (h : ℕ) → Bound → Option Way → Type 0
IsShown config app h b None = Unit {0}
IsShown config app h b (Some way) = ArePointsOf config app h b way.task way.points
