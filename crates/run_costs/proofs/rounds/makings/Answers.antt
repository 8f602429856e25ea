use Rattle.std.proofs.Common.{List, [], arith, length, subst, sym, ◌≤◌, ℕ}
use Rattle.run_windows.specs.declared.costs.Makings.{Makings}
use Rattle.run_costs.specs.RunCosts.{AreMakingRow, AreMakingTable}
use Rattle.run_costs.proofs.Growing.{each_more, each_of}
use Rattle.run_costs.proofs.rounds.makings.Goals as goal

pub loop-named-preserved : goal.loop-named-preserved
loop-named-preserved c =
    each_more (List Makings) (AreMakingRow c.args.walks.now.config c.args.walks.now.app) c.loop-named.table.items c.push.new.list.items c.in_ok-row.row ([]) c.loop-named.named c.loop-named.invariant c.in_ok-push.ensures c.in_ok-row.ensures

pub returns : goal.returns
returns c =
    let over = subst (λ (n : ℕ). n ≤ c.loop-named.named) c.tasks-named-end.ensures.is c.loop-named-test.false in
    let most = subst (λ (n : ℕ). c.loop-named.named ≤ n) c.tasks-named-end.ensures.is c.loop-named.auto.named-end in
    subst (AreMakingTable c.args.walks.now.config c.args.walks.now.app) (sym c.from_vec.ensures)
    (each_of (List Makings) (AreMakingRow c.args.walks.now.config c.args.walks.now.app) c.loop-named.table.items ([]) c.loop-named.named (length c.args.walks.now.config.tasks) (omega (arith, over, most)) c.loop-named.invariant)
