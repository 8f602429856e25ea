use Rattle.std.proofs.Common.{◌≡◌, drop}
use Rattle.trace_check.specs.Scan.{behind_first}
use Rattle.trace_check.proofs.pass.behind_first.Given as goal

abbrev pub invariant-loop-i : goal.invariant-loop-i
invariant-loop-i l = behind_first l.moment l.line (drop l.i l.arrivals) ≡ behind_first l.moment l.line l.arrivals
