use Rattle.std.proofs.Common.{◌≡◌, ℕ, length}
use Rattle.call_graph.specs.Tables.{table_entry}
use Rattle.stack_bounds.proofs.calls.no_calls.Given as goal

abbrev pub invariant-loop-number : goal.invariant-loop-number
invariant-loop-number l = record { count : length l.table.items ≡ l._number; none : (f : ℕ) → table_entry l.table.items f ≡ 0 }
