-- Raised sections that begin early in the source text.
use Rattle.std.specs.Prelude.{ℕ, ◌≤◌, ◌≡◌, List, [], ◌∷◌, Option, Some, None}
use Rattle.sloth_base.specs.declared.config.Config.{Config}
use Rattle.sloth_base.specs.declared.app.App.{App}
use Rattle.sloth_base.specs.Named.{function, item_of}
use Rattle.osek_blocking.specs.Walks.{Position}
use Rattle.osek_blocking.specs.Sections.{IsSection}
use Rattle.bound_rules.specs.declared.bound.BodyWeights.{BodyWeights}
use Rattle.walk_sums.specs.declared.sections.Sum.{Sum}
use Rattle.walk_sums.specs.declared.sections.Sum.TheVariants as sum
use Rattle.walk_sums.specs.Told.{IsToldSum}

-- the source line of the item at a position
abbrev pub position_line : App → Position → Option ℕ
position_line app [] = None
position_line app (here ∷ outer) = Some (item_of (function app here.func) here.item).line

-- that of the first of these positions
abbrev pub first_line : App → List Position → Option ℕ
first_line app [] = None
first_line app (at ∷ further) = position_line app at

-- they begin at this line
abbrev pub BeginsAt : App → (line : ℕ) → List Position → Type 0
BeginsAt app line positions = first_line app positions ≡ Some line

-- a section of task t for h that begins at this line or a lesser one
abbrev pub IsEarlySection : Config → App → (h t line : ℕ) → List Position → Type 0
IsEarlySection config app h t line positions = IsSection config app h t positions × ((l : ℕ) × BeginsAt app l positions × (l ≤ line))

-- what is told of the greatest sum of these is so; there is none where sections of all lines have none
abbrev pub IsToldEarly : Config → App → (weights : List BodyWeights) → (h t line : ℕ) → Sum → Type 0
IsToldEarly config app weights h t line sum.Endless = IsToldSum (IsSection config app h t) weights sum.Endless
IsToldEarly config app weights h t line sum.Huge = IsToldSum (IsEarlySection config app h t line) weights sum.Huge
IsToldEarly config app weights h t line (sum.Counts n) = IsToldSum (IsEarlySection config app h t line) weights (sum.Counts n)
