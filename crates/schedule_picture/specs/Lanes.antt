-- Lanes that change one after the other.
use Rattle.std.specs.Prelude.{ℕ, ◌≡◌, ◌≤◌, ◌<◌, List, length, get_or}
use Rattle.lane_drawing.specs.Strips.{Lane, empty_lane}

-- the first lanes, so many of them, have changed so, and the others are as they were
pub record HaveChanged (P : (lane : ℕ) (old new : Lane) → Type 0) (count : ℕ) (old new : List Lane) : Type 0 where
  pub lanes : length new ≡ length old
  pub changed : (lane : ℕ) → lane < count → P lane (get_or old lane empty_lane) (get_or new lane empty_lane)
  pub kept : (lane : ℕ) → count ≤ lane → get_or new lane empty_lane ≡ get_or old lane empty_lane
