use Rattle.std.proofs.Common.{◌≡◌, ℕ, ◌+◌, drop}
use Rattle.run_windows.specs.Arrivals.{ticking}
use Rattle.run_windows.specs.Cycles.{IsRate}
use Rattle.run_windows.proofs.curves.ticking_rate.Given as goal

abbrev pub invariant-loop-c : goal.invariant-loop-c
invariant-loop-c l =
    (counts : ℕ) → (y : ℕ) × IsRate l.total counts y
    × (y + ticking l.boot l.sets l.j counts l.costs.alarms l.c (drop l.c l.costs.counters) ≡ ticking l.boot l.sets l.j counts l.costs.alarms 0 l.costs.counters)
