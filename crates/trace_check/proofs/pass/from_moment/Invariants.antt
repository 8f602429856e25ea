use Rattle.std.proofs.Common.{◌≡◌, drop}
use Rattle.trace_check.specs.Scan.{from_moment}
use Rattle.trace_check.proofs.pass.from_moment.Given as goal

abbrev pub invariant-loop-i : goal.invariant-loop-i
invariant-loop-i l = from_moment l.moment (drop l.i l.arrivals) ≡ from_moment l.moment l.arrivals
