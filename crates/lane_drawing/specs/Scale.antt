-- Where counts stand in a picture, in hundredths of a pixel, and which of them the axis names.
use Rattle.std.specs.Prelude.{ℕ, ◌+◌, ◌-◌, ◌*◌, ◌/◌, ◌%◌, ◌≤◌, max, leb, List, [], ◌∷◌, ◌++◌, codes, decimal, if◌then◌else◌}
use Rattle.sloth_base.specs.Limits.{picture_limit, count_limit}
use Rattle.lane_drawing.specs.declared.scale.Scale.{Scale}

-- A scale that has its counts in order, no more than a picture shows and of those that a run may have, in a chart that begins 600 pixels from the left at most.
pub record IsScale (scale : Scale) : Type 0 where
  pub ordered : scale.from ≤ scale.to
  pub short : scale.to ≤ scale.from + picture_limit
  pub within : scale.to ≤ count_limit
  pub near : scale.left ≤ 600
  pub far : 12 ≤ scale.left

-- how many counts there are, and at least one
abbrev pub span : Scale → ℕ
span scale = max 1 (scale.to - scale.from)

-- the place of a count; the chart is 1,020 pixels wide
abbrev pub place : Scale → ℕ → ℕ
place scale count = scale.left * 100 + (count - scale.from) * 102000 / span scale

-- a place in pixels, with two decimals
unfoldable pub pixels : ℕ → List ℕ
pixels p = decimal (p / 100) ++ codes "." ++ ((48 + p / 10 % 10) ∷ (48 + p % 10) ∷ [])

-- the steps that an axis may have
abbrev pub steps : List ℕ
steps = 1 ∷ 2 ∷ 5 ∷ 10 ∷ 20 ∷ 50 ∷ 100 ∷ 200 ∷ 500 ∷ 1000 ∷ 2000 ∷ 5000 ∷ []

-- the first of these steps that goes at most 12 times into so many counts, or 10,000
abbrev pub first_step : List ℕ → ℕ → ℕ
first_step [] counts = 10000
first_step (step ∷ more) counts = if leb counts (12 * step) then step else first_step more counts

-- the step of the axis
abbrev pub axis_step : Scale → ℕ
axis_step scale = first_step steps (span scale)

-- of the step's multiples, the first and the last that is a count of the picture, or the one behind all; each is named by how often it is taken
abbrev pub first_multiple : Scale → ℕ
first_multiple scale = (scale.from + axis_step scale - 1) / axis_step scale

abbrev pub last_multiple : Scale → ℕ
last_multiple scale = scale.to / axis_step scale
