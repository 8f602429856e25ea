-- The line of an arrival in a picture: SVG 1.1.
use Rattle.std.specs.Prelude.{ℕ, ◌-◌, Bool, cond, List, [], ◌++◌, codes, decimal}
use Rattle.sloth_base.specs.declared.service.Arrival.{Arrival}
use Rattle.lane_drawing.specs.declared.scale.Scale.{Scale}
use Rattle.lane_drawing.specs.Scale.{place, pixels}

-- the class of an arrival's mark: filled, or hollow where the arrival is lost
abbrev pub arrival_class : (lost : Bool) → List ℕ
arrival_class lost = cond lost (codes "l") (codes "a")

-- what is said behind the moment of an arrival
abbrev pub arrival_end : (lost : Bool) → List ℕ
arrival_end lost = cond lost (codes ", lost") []

-- An arrival in the lane of a name, at its moment: between the upper edge of the lane and its bars.
unfoldable pub arrival_line : Scale → (name : List ℕ) (middle : ℕ) → Arrival → (lost : Bool) → List ℕ
arrival_line scale name middle arrival lost =
    codes "<path class=\"" ++ arrival_class lost ++ codes "\" d=\"M" ++ pixels (place scale arrival.at) ++ codes " " ++ decimal (middle - 13)
    ++ codes "l-4 -6h8z\"><title>" ++ name ++ codes " arrives at " ++ decimal arrival.at ++ arrival_end lost ++ codes "</title></path>\n"
