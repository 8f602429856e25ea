use Rattle.std.proofs.Common.{◌≡◌, ℕ, ◌+◌, drop}
use Rattle.run_windows.specs.Arrivals.{expiring}
use Rattle.run_windows.specs.Cycles.{IsRate}
use Rattle.run_windows.proofs.curves.expiring_rate.Given as goal

abbrev pub invariant-loop-alarm : goal.invariant-loop-alarm
invariant-loop-alarm l =
    (counts x : ℕ) → IsRate l.ticks counts x → (y : ℕ) × IsRate l.total counts y
    × (y + expiring l.boot l.sets l.c l.j x (drop l.alarm-index l.costs.alarms) ≡ expiring l.boot l.sets l.c l.j x l.costs.alarms)
