use Rattle.std.proofs.Common.{◌≡◌, drop}
use Rattle.debug_ways.specs.Points.{breakpoint_kind}
use Rattle.debug_ways.proofs.points.breakpoint_kind.Given as goal

abbrev pub invariant-loop-point : goal.invariant-loop-point
invariant-loop-point l = breakpoint_kind (drop l.point-index l.points) l.pc ≡ breakpoint_kind l.points l.pc
