-- Positions as stacks, the outermost function first, with whether those around each function raise the task; and how trials of points go.
use Rattle.std.specs.Prelude.{ℕ, ◌≡◌, ◌≤◌, leb, Bool, true, false, List, [], ◌∷◌, ◌++◌, length}
use Rattle.std.specs.List.{AllByRecursion}
use Rattle.sloth_base.specs.declared.config.Config.{Config}
use Rattle.sloth_base.specs.declared.app.App.{App}
use Rattle.osek_scheduler.specs.Apart.{static_priority}
use Rattle.osek_blocking.specs.Walks.{Position, IsPositionStep, AreConsecutive, IsWalk}
use Rattle.osek_blocking.specs.Sections.{priority_at, operation_at, is_schedule, is_counted, OnlyLastSchedules, IsSection, size_of_section}
use Rattle.walk_sums.specs.declared.standing.Point.{Point}
use Rattle.walk_sums.specs.declared.standing.Standing.{Standing}
use Rattle.walk_sums.specs.Positions.{place_of, position_of}
use Rattle.section_ways.specs.SectionWays.{StandAt}

-- the current priority of task t at the position is at least the static priority of task h
abbrev pub is_raised_at : Config → App → (h t : ℕ) → Position → Bool
is_raised_at config app h t at = leb (static_priority config h) (priority_at config app t at)

-- of each it is told whether the functions around it raise the task
abbrev pub AreToldOn : Config → App → (h t : ℕ) → (outer : Position) → List Standing → Type 0
AreToldOn config app h t outer [] = Unit {0}
AreToldOn config app h t outer (s ∷ inner) = (s.raised ≡ is_raised_at config app h t outer) × AreToldOn config app h t (place_of s.point ∷ outer) inner

abbrev pub AreTold : Config → App → (h t : ℕ) → List Standing → Type 0
AreTold config app h t stack = AreToldOn config app h t [] stack

-- a walk of task t leads to the position of the stack
pub record IsStart (config : Config) (app : App) (h t : ℕ) (stack : List Standing) : Type 0 where
  pub told : AreTold config app h t stack
  pub before : List Position
  pub walk : IsWalk app t (before ++ position_of stack ∷ [])

-- from a position a walk goes on to that of the stack, whose innermost function stands at the point
pub record IsAdvance (config : Config) (app : App) (h t : ℕ) (from : Position) (stack : List Standing) (to : Point) : Type 0 where
  pub told : AreTold config app h t stack
  pub outer : Position
  pub is : position_of stack ≡ place_of to ∷ outer
  pub step : IsPositionStep app from (position_of stack)

-- the task is raised at the position of the stack, which counts and whose innermost function stands at the point
pub record IsRaisedAt (config : Config) (app : App) (h t : ℕ) (stack : List Standing) (point : Point) : Type 0 where
  pub outer : Position
  pub is : position_of stack ≡ place_of point ∷ outer
  pub raised : static_priority config h ≤ priority_at config app t (position_of stack)
  pub counts : is_counted (operation_at app (position_of stack)) ≡ true

-- one step of a section, from the position of one stack at a point to that of another
pub record IsSectionStep (config : Config) (app : App) (h t : ℕ) (old new : List Standing) (from to : Point) : Type 0 where
  pub told : AreTold config app h t new
  pub goes : is_schedule (operation_at app (position_of old)) ≡ false
  pub step : IsPositionStep app (position_of old) (position_of new)
  pub at : IsRaisedAt config app h t new to

-- the last of these positions
abbrev pub last_of : (first : Position) → List Position → Position
last_of first [] = first
last_of first (next ∷ further) = last_of next further

-- from the position of one stack to that of another lead positions of a section, whose points these are
pub record IsStretch (config : Config) (app : App) (h t : ℕ) (from to : List Standing) (points : List Point) : Type 0 where
  pub further : List Position
  pub told : AreTold config app h t to
  pub ends : last_of (position_of from) further ≡ position_of to
  pub consecutive : AreConsecutive app (position_of from ∷ further)
  pub raised : AllByRecursion (λ at. static_priority config h ≤ priority_at config app t at) (position_of from ∷ further)
  pub unbroken : OnlyLastSchedules app (position_of from ∷ further)
  pub stand : StandAt (position_of from ∷ further) points
  pub counted : size_of_section app (position_of from ∷ further) ≡ length points

-- the points of a section of task t for task h that ends at the position at which it begins
pub record IsClosedWay (config : Config) (app : App) (h t : ℕ) (points : List Point) : Type 0 where
  pub first : Position
  pub further : List Position
  pub is_section : IsSection config app h t (first ∷ further ++ first ∷ [])
  pub stand : StandAt (first ∷ further ++ first ∷ []) points
