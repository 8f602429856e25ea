use Rattle.std.proofs.Common.{◌≡◌, ◌<◌, ℕ, length, get_or}
use Rattle.lane_drawing.specs.Strips.{empty_lane, IsFreshStrip}
use Rattle.schedule_picture.proofs.picture.empty_strips.Given as goal

abbrev pub invariant-loop : goal.invariant-loop
invariant-loop l = (length l.strips.items ≡ l.counter) × ((lane : ℕ) → lane < l.counter → IsFreshStrip l.from (get_or l.strips.items lane empty_lane))
