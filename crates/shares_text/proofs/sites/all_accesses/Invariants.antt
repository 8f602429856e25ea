use Rattle.std.proofs.Common.{◌≡◌, ◌++◌, drop}
use Rattle.shares_text.specs.Sites.{gather, access_at}
use Rattle.shares_text.proofs.sites.all_accesses.Given as goal

abbrev pub invariant-loop-number : goal.invariant-loop-number
invariant-loop-number l = l.accesses.items ++ gather access_at l.number (drop l.number l.funcs) l.table ≡ gather access_at 0 l.funcs l.table
