use Rattle.run_windows.specs.Costs.{no_services}
use Rattle.run_costs.specs.CostsOf.{AreServices}
use Rattle.run_costs.specs.CostsOf.{AreEach}
use Rattle.run_costs.proofs.services.naming_services.Given as goal

abbrev pub invariant-loop-task : goal.invariant-loop-task
invariant-loop-task l = AreEach l.task (no_services) (AreServices l.walks.app l.named) l.row.items
