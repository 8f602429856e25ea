-- Ways through raised sections: the points at which the innermost functions of their positions stand.
use Rattle.std.specs.Prelude.{ℕ, ◌≡◌, List, [], ◌∷◌, ◌++◌, length}
use Rattle.sloth_base.specs.declared.config.Config.{Config}
use Rattle.sloth_base.specs.declared.app.App.{App}
use Rattle.osek_blocking.specs.Walks.{Position}
use Rattle.osek_blocking.specs.Sections.{IsSection, IsLower, size_of_section}
use Rattle.walk_sums.specs.declared.standing.Point.{Point}
use Rattle.walk_sums.specs.Positions.{place_of}

-- the innermost function of each of these positions stands at the point
abbrev pub StandAt : List Position → List Point → Type 0
StandAt [] [] = Unit {0}
StandAt ((here ∷ outer) ∷ positions) (p ∷ points) = (here ≡ place_of p) × StandAt positions points
StandAt _ _ = ⊥

-- the points of a section of task t, a lower one, for task h; each of its positions counts
pub record IsSectionWay (config : Config) (app : App) (h t : ℕ) (points : List Point) : Type 0 where
  pub lower : IsLower config h t
  pub positions : List Position
  pub is_section : IsSection config app h t positions
  pub stand : StandAt positions points
  pub counted : size_of_section app positions ≡ length points

-- the points of a cycle within such a section: behind the last position stands the first one again
pub record IsCycleWay (config : Config) (app : App) (h t : ℕ) (points : List Point) : Type 0 where
  pub lower : IsLower config h t
  pub first : Position
  pub further : List Position
  pub is_section : IsSection config app h t (first ∷ further ++ first ∷ [])
  pub stand : StandAt (first ∷ further) points
