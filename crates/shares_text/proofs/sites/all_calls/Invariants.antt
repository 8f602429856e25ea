use Rattle.std.proofs.Common.{◌≡◌, ◌++◌, drop}
use Rattle.shares_text.specs.Sites.{gather, call_at}
use Rattle.shares_text.proofs.sites.all_calls.Given as goal

abbrev pub invariant-loop-number : goal.invariant-loop-number
invariant-loop-number l = l.calls.items ++ gather call_at l.number (drop l.number l.funcs) l.table ≡ gather call_at 0 l.funcs l.table
