use Rattle.std.proofs.Common.{◌≡◌, ℕ, ◌<◌, length, get_or}
use Rattle.shares_text.specs.declared.verdict.Verdict.TheVariants as verdict
use Rattle.shares_text.specs.Verdicts.{IsVerdict}
use Rattle.shares_text.proofs.symbol_verdicts.verdicts.Given as goal

abbrev pub invariant-loop-symbol : goal.invariant-loop-symbol
invariant-loop-symbol l = record {
  count : length l.list.items ≡ l.symbol;
  each : (y : ℕ) → y < l.symbol → IsVerdict l.config l.app y (get_or l.list.items y verdict.Unused);
}
