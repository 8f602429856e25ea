use Rattle.run_windows.specs.Costs.{no_task}
use Rattle.run_costs.specs.RunCosts.{AreRunTaskCosts}
use Rattle.run_costs.specs.CostsOf.{AreEach}
use Rattle.run_costs.proofs.record.tasks.Given as goal

abbrev pub invariant-loop-task : goal.invariant-loop-task
invariant-loop-task l = AreEach l.task (no_task) (AreRunTaskCosts l.walks.config l.walks.app l.load l.weights) l.list.items
