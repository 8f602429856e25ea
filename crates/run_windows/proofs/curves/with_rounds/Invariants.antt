use Rattle.std.proofs.Common.{◌≡◌, ℕ, ◌+◌, drop}
use Rattle.run_windows.specs.Windows.{Numbers, numbers_of, round_counts, IsAtMost}
use Rattle.run_windows.specs.Cycles.{AreRatesOf, IsCurve}
use Rattle.run_windows.proofs.curves.with_rounds.Given as goal

abbrev pub invariant-loop-k : goal.invariant-loop-k
invariant-loop-k l =
    (more y : ℕ) (m : Numbers) → IsCurve l.fn.curve more y → ((k : ℕ) → IsAtMost (numbers_of l.made k) (m k)) → ((k : ℕ) → AreRatesOf (numbers_of l.rates k) more (m k))
    → (z : ℕ) × IsCurve l.sum more z × (z + round_counts m l.k (drop l.k l.costs.tasks) ≡ y + round_counts m 0 l.costs.tasks)
