use Rattle.std.proofs.Common.{List, [], arith, length, subst, sym, ◌≤◌, ℕ}
use Rattle.walk_sums.specs.declared.sections.RoundSums.{RoundSums}
use Rattle.run_costs.specs.CostsOf.{AreEach}
use Rattle.run_costs.specs.Services.{AreServiceTops}
use Rattle.run_costs.specs.Makings.{AreRoundSums}
use Rattle.run_windows.specs.declared.costs.TaskCosts.{TaskCosts}
use Rattle.run_windows.specs.Costs.{no_task}
use Rattle.run_costs.specs.RunCosts.{AreRunTaskCosts, AreTaskCosts}
use Rattle.run_costs.proofs.Growing.{each_more, each_of}
use Rattle.run_costs.proofs.record.tasks.Goals as goal

pub task_costs-costs-requires-clause-rounds : goal.task_costs-costs-requires-clause-rounds
task_costs-costs-requires-clause-rounds c =
    subst (λ (l : List RoundSums). AreRoundSums c.args.walks.now.config c.args.walks.now.app c.args.clean.now c.args.weights.now l) (sym c.deref.ensures.value) c.in_ok-rounds.ensures

pub task_costs-costs-requires-clause-services : goal.task_costs-costs-requires-clause-services
task_costs-costs-requires-clause-services c =
    subst (AreEach 16 [] (AreServiceTops c.args.walks.now.config c.args.walks.now.app)) (sym c.deref-in-loop-task.ensures.value) c.in_ok-services.ensures

pub loop-task-preserved : goal.loop-task-preserved
loop-task-preserved c =
    each_more (TaskCosts) (AreRunTaskCosts c.args.walks.now.config c.args.walks.now.app c.args.load.now c.args.weights.now) c.loop-task.list.items c.push.new.list.items c.task_costs-costs.result (no_task) c.loop-task.task c.loop-task.invariant c.in_ok-push.ensures
    (c.task_costs-costs.ensures)

pub returns : goal.returns
returns c =
    let over = subst (λ (n : ℕ). n ≤ c.loop-task.task) c.tasks-task-end.ensures.is c.loop-task-test.false in
    let most = subst (λ (n : ℕ). c.loop-task.task ≤ n) c.tasks-task-end.ensures.is c.loop-task.auto.task-end in
    subst (AreTaskCosts c.args.walks.now.config c.args.walks.now.app c.args.load.now c.args.weights.now) (sym c.from_vec.ensures)
    (each_of (TaskCosts) (AreRunTaskCosts c.args.walks.now.config c.args.walks.now.app c.args.load.now c.args.weights.now) c.loop-task.list.items (no_task) c.loop-task.task (length c.args.walks.now.config.tasks) (omega (arith, over, most)) c.loop-task.invariant)
