-- The lines of marks in a picture: SVG 1.1.
use Rattle.std.specs.Prelude.{ℕ, ◌+◌, ltb, Bool, cond, List, ◌++◌, codes, decimal}
use Rattle.lane_drawing.specs.declared.scale.Scale.{Scale}
use Rattle.lane_drawing.specs.Scale.{place, pixels}

-- the head of a line that goes down, or up: its point is the line's end
abbrev pub arrow_head : (down : Bool) → List ℕ
arrow_head down = cond down (codes "m-3 -6l3 6l3 -6z") (codes "m-3 6l3 -6l3 6z")

-- A thin line at a count, from one height to another, with a head there: it says who does what to a task.
unfoldable pub arrow_line : Scale → (at : ℕ) → (by : List ℕ) (from : ℕ) → (does : List ℕ) → (task : List ℕ) (to : ℕ) → List ℕ
arrow_line scale at by from does task to =
    codes "<path class=\"m\" d=\"M" ++ pixels (place scale at) ++ codes " " ++ decimal from ++ codes "V" ++ decimal to ++ arrow_head (ltb from to)
    ++ codes "\"><title>" ++ by ++ does ++ task ++ codes " at " ++ decimal at ++ codes "</title></path>\n"

-- A rhomb at the tick that an alarm expires at: between the lane's bars and its lower edge.
unfoldable pub expiry_line : Scale → (at alarm middle : ℕ) → List ℕ
expiry_line scale at alarm middle =
    codes "<path class=\"a\" d=\"M" ++ pixels (place scale at) ++ codes " " ++ decimal (middle + 10) ++ codes "l4 4l-4 4l-4 -4z\"><title>alarm "
    ++ decimal alarm ++ codes " expires at " ++ decimal at ++ codes "</title></path>\n"
