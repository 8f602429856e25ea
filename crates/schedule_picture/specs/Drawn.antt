-- What a picture's text is made of.
use Rattle.std.specs.Prelude.{ℕ, ◌≡◌, ◌≤◌, ◌+◌, All, length, get_or}
use Rattle.sloth_base.specs.ImageRange.{InFormat}
use Rattle.lane_drawing.specs.Bars.{IsBarInside}
use Rattle.lane_drawing.specs.Scale.{IsScale}
use Rattle.lane_drawing.specs.Strips.{empty_lane}
use Rattle.schedule_picture.specs.declared.text.Drawn.{Drawn}
use Rattle.schedule_picture.specs.LaneLooks.{owned_lanes}
use Rattle.schedule_picture.specs.Picture.{Drawing}

-- the drawing, with each strip's bars in its lane
abbrev pub drawing_of : Drawn → Drawing
drawing_of drawn = record {
  image = drawn.image.now;
  admissions = drawn.admissions.now;
  marks = drawn.marks.now;
  addresses = drawn.addresses.now;
  levels = drawn.levels;
  scale = drawn.scale;
  bars = λ lane. (get_or drawn.strips.now lane empty_lane).bars;
}

-- it can be drawn: an address for each count of the picture, a lane for each task and each counter of the image and one more, and bars within the counts
pub record IsDrawable (drawn : Drawn) : Type 0 where
  pub format : InFormat drawn.image.now
  pub scale : IsScale drawn.scale
  pub addresses : drawn.scale.to ≡ drawn.scale.from + length drawn.addresses.now
  pub lanes : length drawn.strips.now ≡ owned_lanes drawn.image.now + 1
  pub inside : (lane : ℕ) → lane ≤ owned_lanes drawn.image.now
      → All (IsBarInside drawn.scale.from drawn.scale.to) (get_or drawn.strips.now lane empty_lane).bars
