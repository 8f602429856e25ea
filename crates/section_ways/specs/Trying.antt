-- What trials of points say of walked task code with two tasks of it.
use Rattle.std.specs.Prelude.{◌≡◌, Bool, true, List}
use Rattle.bound_rules.specs.declared.bound.Bound.{Bound}
use Rattle.osek_blocking.specs.Walks.{Position}
use Rattle.walk_sums.specs.declared.standing.Point.{Point}
use Rattle.walk_sums.specs.declared.standing.Standing.{Standing}
use Rattle.section_ways.specs.SectionWays.{IsSectionWay}
use Rattle.section_ways.specs.ShownWays.{ArePointsOf}
use Rattle.section_ways.specs.Standings.{AreTold, IsStart, IsAdvance, IsRaisedAt, IsSectionStep, IsStretch, IsClosedWay, is_raised_at}
use Rattle.section_ways.specs.Trials.{TrialCode}

-- the lower task is raised at a position
abbrev pub is_raised_position : TrialCode → Position → Bool
is_raised_position t at = is_raised_at t.config t.app t.above t.task at

-- of each of the stack it is told whether those around it raise the task
abbrev pub IsToldStack : TrialCode → List Standing → Type 0
IsToldStack t stack = AreTold t.config t.app t.above t.task stack

-- a walk of the lower task leads to the position of the stack
abbrev pub IsStartStack : TrialCode → List Standing → Type 0
IsStartStack t stack = IsStart t.config t.app t.above t.task stack

-- the task is raised at the position of the stack, which counts and is at the point
abbrev pub IsRaisedStack : TrialCode → List Standing → Point → Type 0
IsRaisedStack t stack point = IsRaisedAt t.config t.app t.above t.task stack point

-- what is said is yes only if a walk goes on from the position to that of the stack, at the point
abbrev pub Advances : TrialCode → Position → List Standing → Point → Bool → Type 0
Advances t from stack to goes = goes ≡ true → IsAdvance t.config t.app t.above t.task from stack to

-- only if a section does, from one stack at a point to the other
abbrev pub GoesFurther : TrialCode → (old new : List Standing) → (from to : Point) → Bool → Type 0
GoesFurther t old new from to goes = goes ≡ true → IsSectionStep t.config t.app t.above t.task old new from to

-- only if one does through all these points
abbrev pub GoesThrough : TrialCode → (old new : List Standing) → List Point → Bool → Type 0
GoesThrough t old new points goes = goes ≡ true → IsStretch t.config t.app t.above t.task old new points

-- only if they are those of a section
abbrev pub TellsSection : TrialCode → List Point → Bool → Type 0
TellsSection t points is = is ≡ true → IsSectionWay t.config t.app t.above t.task points

-- only if that ends at the position at which it begins
abbrev pub TellsClosed : TrialCode → List Point → Bool → Type 0
TellsClosed t points is = is ≡ true → IsClosedWay t.config t.app t.above t.task points

-- they are those of which the bound is made
abbrev pub ArePoints : TrialCode → Bound → List Point → Type 0
ArePoints t bound points = ArePointsOf t.config t.app t.above bound t.task points
