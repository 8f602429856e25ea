use Rattle.std.proofs.Common.{◌≡◌, drop}
use Rattle.debug_ways.specs.Points.{first_watch}
use Rattle.debug_ways.proofs.points.first_watch.Given as goal

abbrev pub invariant-loop-point : goal.invariant-loop-point
invariant-loop-point l = first_watch (drop l.point-index l.points) l.access ≡ first_watch l.points l.access
