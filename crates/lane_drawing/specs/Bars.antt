-- The bars of a lane: its longest stretches of counts that show the same.
use Rattle.std.specs.Prelude.{ℕ, ◌≡◌, ◌<◌, ◌≤◌, List, [], ◌∷◌, Option, Some, None}
use Rattle.lane_drawing.specs.declared.drawing.Bar.{Bar}
use Rattle.lane_drawing.specs.declared.drawing.Look.{Look}

-- nothing is shown at the counts from one to below another
abbrev pub IsEmpty : (looks : ℕ → Option Look) (from to : ℕ) → Type 0
IsEmpty looks from to = (count : ℕ) → from ≤ count → count < to → looks count ≡ None

-- A bar stands behind a count, with nothing between: all its counts show its look, and the count behind it does not, if that is below `to`.
pub record IsBar (looks : ℕ → Option Look) (from to : ℕ) (bar : Bar) : Type 0 where
  pub behind : from ≤ bar.from
  pub nothing_between : IsEmpty looks from bar.from
  pub some : bar.from < bar.to
  pub within : bar.to ≤ to
  pub equal : (count : ℕ) → bar.from ≤ count → count < bar.to → looks count ≡ Some bar.look
  pub longest : bar.to < to → looks bar.to ≡ Some bar.look → ⊥

-- These are the bars of the counts from one to below another: each behind the one before it, and nothing is shown elsewhere. So each is a
-- longest stretch of counts that show the same, and each such stretch is one of them.
abbrev pub AreBars : (looks : ℕ → Option Look) (from to : ℕ) → List Bar → Type 0
AreBars looks from to [] = IsEmpty looks from to
AreBars looks from to (bar ∷ bars) = IsBar looks from to bar × AreBars looks bar.to to bars

-- a bar's counts lie in those from one to below another
pub record IsBarInside (from to : ℕ) (bar : Bar) : Type 0 where
  pub behind : from ≤ bar.from
  pub some : bar.from < bar.to
  pub within : bar.to ≤ to
