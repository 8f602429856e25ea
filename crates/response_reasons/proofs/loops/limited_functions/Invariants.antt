use Rattle.std.proofs.Common.{◌≡◌, ℕ, ◌<◌, length, get_or, false}
use Rattle.response_reasons.specs.LoopCode.{is_limited}
use Rattle.bound_rules.specs.Summaries.{summary_of}
use Rattle.response_reasons.proofs.loops.limited_functions.Given as goal

abbrev pub invariant-loop-summary : goal.invariant-loop-summary
invariant-loop-summary l = record {
  count : length l.limited.items ≡ l.summary-index;
  exact : (g : ℕ) → g < l.summary-index → get_or l.limited.items g false ≡ is_limited (summary_of l.whole g);
}
