use Rattle.std.proofs.Common.{◌≡◌, ◌++◌}
use Rattle.shares_text.specs.UnusedText.{lines_below}
use Rattle.shares_text.specs.UsesBy.{is_used_by}
use Rattle.shares_text.proofs.unused.push_all.Given as goal

abbrev pub invariant-loop-number : goal.invariant-loop-number
invariant-loop-number l = l.text.items ≡ l.initial.text.items ++ lines_below l.config l.app (is_used_by l.config l.app l.users) l.kind l.number
