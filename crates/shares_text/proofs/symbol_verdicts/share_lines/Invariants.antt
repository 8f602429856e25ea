use Rattle.std.proofs.Common.{◌≡◌}
use Rattle.shares_text.specs.SharesText.{share_lines}
use Rattle.shares_text.proofs.symbol_verdicts.share_lines.Given as goal

abbrev pub invariant-loop-number : goal.invariant-loop-number
invariant-loop-number l = l.text.items ≡ share_lines l.config l.app l.verdicts l.number
