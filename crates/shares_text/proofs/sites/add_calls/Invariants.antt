use Rattle.std.proofs.Common.{◌≡◌, ◌++◌, drop}
use Rattle.shares_text.specs.Sites.{gather_items, call_at}
use Rattle.shares_text.proofs.sites.add_calls.Given as goal

abbrev pub invariant-loop-number : goal.invariant-loop-number
invariant-loop-number l = l.calls.items ++ gather_items call_at l.caller l.number (drop l.number l.items) l.rows ≡ l.initial.calls.items ++ gather_items call_at l.caller 0 l.items l.rows
