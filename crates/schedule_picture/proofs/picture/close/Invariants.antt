use Rattle.std.proofs.Common.{◌≡◌, ◌++◌}
use Rattle.lane_drawing.specs.Strips.{last_bar}
use Rattle.schedule_picture.specs.Lanes.{HaveChanged}
use Rattle.schedule_picture.proofs.picture.close.Given as goal

abbrev pub invariant-loop-lane : goal.invariant-loop-lane
invariant-loop-lane l = HaveChanged (λ lane old new. new.bars ≡ old.bars ++ last_bar old l.count) l.lane l.fn.strips.items l.strips.items
