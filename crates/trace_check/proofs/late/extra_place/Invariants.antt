use Rattle.std.proofs.Common.{◌≡◌, ◌≤◌, take}
use Rattle.osek_scheduler.specs.InTime.{admits_at}
use Rattle.trace_check.proofs.late.extra_place.Given as goal

abbrev pub invariant-loop-i : goal.invariant-loop-i
invariant-loop-i l = record {
  count : l.count ≡ admits_at l.moment l.line (take l.i l.events);
  few : l.count ≤ l.wanted;
}
