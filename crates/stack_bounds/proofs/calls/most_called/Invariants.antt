use Rattle.std.proofs.Common.{◌≡◌, get_or}
use Rattle.sloth_base.specs.Named.{no_item}
use Rattle.call_graph.specs.Tables.{max_below, bytes_called, table_entry}
use Rattle.stack_bounds.proofs.calls.most_called.Given as goal

abbrev pub invariant-loop-item : goal.invariant-loop-item
invariant-loop-item l = l.most ≡ max_below l.item-index (λ i. bytes_called l.funcs (table_entry l.table) (get_or l.items i no_item).op)
