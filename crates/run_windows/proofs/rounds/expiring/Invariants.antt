use Rattle.std.proofs.Common.{◌≡◌, ◌+◌, ◌≤◌, drop}
use Rattle.run_windows.specs.Costs.{greatest_sum, capped}
use Rattle.run_windows.specs.Arrivals.{expiring}
use Rattle.run_windows.proofs.rounds.expiring.Given as goal

abbrev pub invariant-loop-alarm : goal.invariant-loop-alarm
invariant-loop-alarm l = record {
  within : l.total ≤ greatest_sum;
  is : capped (l.total + expiring l.boot l.sets l.c l.j l.ticks (drop l.alarm-index l.costs.alarms)) ≡ capped (expiring l.boot l.sets l.c l.j l.ticks l.costs.alarms);
}
