use Rattle.std.proofs.Common.{ℕ, ◌+◌, List, subst, sym, arith}
use Rattle.call_graph.specs.Tables.{IsTable, IsTableInLimit}
use Rattle.stack_bounds.proofs.Depths.{table_small, one_deeper}
use Rattle.stack_bounds.proofs.calls.most_calls.Goals as goal

pub deeper-requires-clause-small : goal.deeper-requires-clause-small
deeper-requires-clause-small c =
    let few = c.requires.few in
    subst (λ (table : List ℕ). IsTableInLimit c.args.funcs.now table) (sym c.deref.ensures.value)
    (table_small c.args.funcs.now c.loop-depth._depth c.loop-depth.table.items c.requires (omega arith) c.loop-depth.invariant)

pub loop-depth-preserved : goal.loop-depth-preserved
loop-depth-preserved c =
    one_deeper c.args.funcs.now c.loop-depth._depth (c.loop-depth._depth + 1) c.deref.result.now c.in_ok-table-2.table.items (omega arith) c.requires
    (subst (λ (table : List ℕ). IsTable c.args.funcs.now c.loop-depth._depth table) (sym c.deref.ensures.value) c.loop-depth.invariant)
    c.in_ok-table-2.ensures.count c.in_ok-table-2.ensures.calls
