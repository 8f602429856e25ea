use Rattle.std.proofs.Common.{◌≡◌, ◌+◌, ◌≤◌, drop}
use Rattle.run_windows.specs.Costs.{greatest_sum, capped}
use Rattle.run_windows.specs.Arrivals.{ticking}
use Rattle.run_windows.proofs.rounds.ticking.Given as goal

abbrev pub invariant-loop-c : goal.invariant-loop-c
invariant-loop-c l = record {
  within : l.total ≤ greatest_sum;
  is : capped (l.total + ticking l.boot l.sets l.j l.counts l.costs.alarms l.c (drop l.c l.costs.counters)) ≡ capped (ticking l.boot l.sets l.j l.counts l.costs.alarms 0 l.costs.counters);
}
