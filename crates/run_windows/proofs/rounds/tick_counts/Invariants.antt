use Rattle.std.proofs.Common.{◌≡◌, ◌+◌, ◌≤◌, drop}
use Rattle.run_windows.specs.Costs.{greatest_sum, capped}
use Rattle.run_windows.specs.Arrivals.{tick_counts}
use Rattle.run_windows.proofs.rounds.tick_counts.Given as goal

abbrev pub invariant-loop-counter : goal.invariant-loop-counter
invariant-loop-counter l = record {
  within : l.total ≤ greatest_sum;
  is : capped (l.total + tick_counts l.counts (drop l.counter-index l.counters)) ≡ capped (tick_counts l.counts l.counters);
}
