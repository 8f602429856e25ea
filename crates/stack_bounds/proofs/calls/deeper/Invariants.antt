use Rattle.std.proofs.Common.{◌≡◌, ℕ, ◌<◌, length}
use Rattle.call_graph.specs.Tables.{most_called, table_entry, func_of}
use Rattle.stack_bounds.proofs.calls.deeper.Given as goal

abbrev pub invariant-loop-func : goal.invariant-loop-func
invariant-loop-func l = record {
  count : length l.next.items ≡ l.func-index;
  calls : (f : ℕ) → f < l.func-index → table_entry l.next.items f ≡ most_called l.funcs (table_entry l.table) (func_of l.funcs f).items;
}
