use Rattle.std.proofs.Common.{◌≡◌, ℕ, ◌+◌, ◌≤◌, drop}
use Rattle.run_windows.specs.Arrivals.{tick_counts}
use Rattle.run_windows.specs.Cycles.{IsCurve}
use Rattle.run_windows.proofs.curves.with_ticks.Given as goal

abbrev pub invariant-loop-counter : goal.invariant-loop-counter
invariant-loop-counter l =
    (more y : ℕ) → IsCurve l.fn.curve more y → l.counts ≤ more
    → (z : ℕ) × IsCurve l.sum more z × (z + tick_counts more (drop l.counter-index l.costs.counters) ≡ y + tick_counts more l.costs.counters)
