use Rattle.std.proofs.Common.{◌≡◌, Some, take}
use Rattle.trace_check.specs.Scan.{scan_start, scan_after_events}
use Rattle.trace_check.proofs.late.front_in_place.Given as goal

abbrev pub invariant-loop-i : goal.invariant-loop-i
invariant-loop-i l = scan_after_events l.n (Some (scan_start l.arrivals)) (take l.i l.events) ≡ Some l.pass
