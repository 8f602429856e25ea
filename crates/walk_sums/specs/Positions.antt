-- Positions as stacks of functions in progress, the outermost first.
use Rattle.std.specs.Prelude.{false, List, [], ◌∷◌}
use Rattle.osek_blocking.specs.Walks.{Place, place, Position}
use Rattle.walk_sums.specs.declared.standing.Point.{Point}
use Rattle.walk_sums.specs.declared.standing.Standing.{Standing}

-- a point as a place of a walk
abbrev pub place_of : Point → Place
place_of p = place p.func p.item

-- what stands in the place of a point that is not there
abbrev pub no_point : Point
no_point = record { func = 0; item = 0 }

-- the position of a stack inside these functions
abbrev pub position_on : (outer : Position) → List Standing → Position
position_on outer [] = outer
position_on outer (s ∷ inner) = position_on (place_of s.point ∷ outer) inner

-- the position of a stack
abbrev pub position_of : List Standing → Position
position_of stack = position_on [] stack

-- what stands in the place of a function in progress that is not there
abbrev pub no_standing : Standing
no_standing = record { point = no_point; raised = false }
