use Rattle.call_graph.specs.Tables.{IsTable}
use Rattle.stack_bounds.proofs.calls.most_calls.Given as goal

abbrev pub invariant-loop-depth : goal.invariant-loop-depth
invariant-loop-depth l = IsTable l.funcs l._depth l.table.items
