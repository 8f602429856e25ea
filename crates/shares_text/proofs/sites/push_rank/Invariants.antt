use Rattle.std.proofs.Common.{◌≡◌, ◌++◌, drop, filter}
use Rattle.shares_text.specs.Sites.{is_of_rank}
use Rattle.shares_text.proofs.sites.push_rank.Given as goal

abbrev pub invariant-loop-call : goal.invariant-loop-call
invariant-loop-call l = l.list.items ++ filter (is_of_rank l.ranks l.rank) (drop l.call-index l.calls) ≡ l.initial.list.items ++ filter (is_of_rank l.ranks l.rank) l.calls
