use Rattle.std.proofs.Common.{◌≡◌, ◌≤◌, drop, length}
use Rattle.trace_check.specs.Counts.{least_apart}
use Rattle.trace_check.proofs.timing.least_apart.Given as goal

abbrev pub invariant-loop-i : goal.invariant-loop-i
invariant-loop-i l = record {
  inside : l.i ≤ length l.others;
  same : least_apart (drop l.i l.ones) (drop l.i l.others) ≡ least_apart l.ones l.others;
}
