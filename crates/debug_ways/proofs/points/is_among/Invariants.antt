use Rattle.std.proofs.Common.{◌≡◌, drop}
use Rattle.debug_ways.specs.Points.{is_among}
use Rattle.debug_ways.proofs.points.is_among.Given as goal

abbrev pub invariant-loop-other : goal.invariant-loop-other
invariant-loop-other l = is_among l.point (drop l.other-index l.points) ≡ is_among l.point l.points
