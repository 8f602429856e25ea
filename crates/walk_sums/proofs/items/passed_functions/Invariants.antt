use Rattle.std.proofs.Common.{◌≡◌, ℕ, ◌<◌, length, get_or, false}
use Rattle.walk_sums.specs.Computed.{is_passed}
use Rattle.bound_rules.specs.Summaries.{summary_of}
use Rattle.walk_sums.proofs.items.passed_functions.Given as goal

abbrev pub invariant-loop-summary : goal.invariant-loop-summary
invariant-loop-summary l = record {
  count : length l.passed.items ≡ l.summary-index;
  exact : (g : ℕ) → g < l.summary-index → get_or l.passed.items g false ≡ is_passed (summary_of l.whole g);
}
