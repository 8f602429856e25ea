use Rattle.std.proofs.Common.{◌≡◌, ◌++◌, drop}
use Rattle.shares_text.specs.SharesText.{further_keepers}
use Rattle.shares_text.proofs.lines.push_further.Given as goal

abbrev pub invariant-loop-number : goal.invariant-loop-number
invariant-loop-number l = l.text.items ++ further_keepers l.config (drop l.number l.list) ≡ l.initial.text.items ++ further_keepers l.config (drop 1 l.list)
