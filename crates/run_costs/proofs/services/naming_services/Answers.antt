use Rattle.std.proofs.Common.{arith, length, subst, sym, ◌<◌, ◌≤◌, ℕ}
use Rattle.walk_sums.proofs.Bodily.{facts_of}
use Rattle.run_costs.proofs.Serving.{services_are}
use Rattle.run_windows.specs.declared.costs.Services.{Services}
use Rattle.run_windows.specs.Costs.{no_services}
use Rattle.run_costs.specs.CostsOf.{AreServices, AreServiceRow}
use Rattle.run_costs.proofs.Growing.{each_more, each_of}
use Rattle.run_costs.proofs.services.naming_services.Goals as goal

pub loop-task-preserved : goal.loop-task-preserved
loop-task-preserved c =
    let inside = subst (λ (n : ℕ). c.loop-task.task < n) c.tasks-task-end.ensures.is c.loop-task-test.true in
    each_more (Services) (AreServices c.args.walks.now.app c.args.named) c.loop-task.row.items c.push.new.list.items c.reached_services.result (no_services) c.loop-task.task c.loop-task.invariant c.in_ok-push.ensures (subst (AreServices c.args.walks.now.app c.args.named c.loop-task.task) (sym c.reached_services.ensures) (services_are c.args.walks.now.config c.args.walks.now.app (facts_of c.args.walks.now.config c.args.walks.now.app c.tasks-task-end.ensures.well_formed) c.loop-task.task inside c.args.named c.args.tops.now c.requires))

pub returns : goal.returns
returns c =
    let over = subst (λ (n : ℕ). n ≤ c.loop-task.task) c.tasks-task-end.ensures.is c.loop-task-test.false in
    let most = subst (λ (n : ℕ). c.loop-task.task ≤ n) c.tasks-task-end.ensures.is c.loop-task.auto.task-end in
    subst (AreServiceRow c.args.walks.now.config c.args.walks.now.app c.args.named) (sym c.from_vec.ensures)
    (each_of (Services) (AreServices c.args.walks.now.app c.args.named) c.loop-task.row.items (no_services) c.loop-task.task (length c.args.walks.now.config.tasks) (omega (arith, over, most)) c.loop-task.invariant)
