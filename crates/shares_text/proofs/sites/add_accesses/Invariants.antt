use Rattle.std.proofs.Common.{◌≡◌, ◌++◌, drop}
use Rattle.shares_text.specs.Sites.{gather_items, access_at}
use Rattle.shares_text.proofs.sites.add_accesses.Given as goal

abbrev pub invariant-loop-number : goal.invariant-loop-number
invariant-loop-number l = l.list.items ++ gather_items access_at l.func l.number (drop l.number l.items) l.rows ≡ l.initial.list.items ++ gather_items access_at l.func 0 l.items l.rows
