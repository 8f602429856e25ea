use Rattle.std.proofs.Common.{◌≡◌, ℕ, length}
use Rattle.bound_rules.specs.Summaries.{summary_of, unknown}
use Rattle.walk_sums.proofs.levels.unknown.Given as goal

abbrev pub invariant-loop-number : goal.invariant-loop-number
invariant-loop-number l = record { count : length l.table.items ≡ l._number; none : (g : ℕ) → summary_of l.table.items g ≡ unknown }
