-- The bars of a lane, as its counts come.
use Rattle.std.specs.Prelude.{ℕ, ◌≡◌, ◌<◌, ◌≤◌, ◌+◌, List, [], ◌∷◌, ◌++◌, Option, Some, None}
use Rattle.lane_drawing.specs.declared.drawing.Bar.{Bar}
use Rattle.lane_drawing.specs.declared.drawing.Look.{Look}
use Rattle.lane_drawing.specs.Bars.{AreBars}

-- the bars of a lane so far, and what it has shown since a count
pub record Lane : Type 0 where
  pub bars : List Bar
  pub shown : Option Look
  pub since : ℕ

-- one that has shown nothing
abbrev pub empty_lane : Lane
empty_lane = record { bars = []; shown = None; since = 0 }

-- the bar of a look that is shown from one count to below another, if there is one
abbrev pub bar_of : Option Look → (from to : ℕ) → List Bar
bar_of None from to = []
bar_of (Some look) from to = record { look = look; from = from; to = to } ∷ []

-- that of what a strip has shown last, if it ends below a count
abbrev pub last_bar : Lane → ℕ → List Bar
last_bar strip count = bar_of strip.shown strip.since count

-- bars that end below a count
abbrev pub EndBelow : ℕ → List Bar → Type 0
EndBelow count [] = Unit {0}
EndBelow count (bar ∷ bars) = (bar.to < count) × EndBelow count bars

-- a lane that shows nothing now has bars that end below this count
abbrev pub HasEndedBars : ℕ → Option Look → List Bar → Type 0
HasEndedBars count None bars = EndBelow count bars
HasEndedBars count (Some look) bars = Unit {0}

-- A strip stands at a count: with what it has shown last, its bars are those of the counts up to this one.
pub record IsStrip (looks : ℕ → Option Look) (from count : ℕ) (strip : Lane) : Type 0 where
  pub are_bars : AreBars looks from count (strip.bars ++ last_bar strip count)
  pub apart : HasEndedBars count strip.shown strip.bars

-- it stands at the first count, whatever is shown
abbrev pub IsFreshStrip : (from : ℕ) → Lane → Type 0
IsFreshStrip from strip = (looks : ℕ → Option Look) → IsStrip looks from from strip

-- a strip at a count goes on with a look to the next
abbrev pub ShowsMore : (count : ℕ) → Option Look → (old new : Lane) → Type 0
ShowsMore count look old new =
    (looks : ℕ → Option Look) (from : ℕ) → from ≤ count → IsStrip looks from count old → looks count ≡ look
    → IsStrip looks from (count + 1) new
