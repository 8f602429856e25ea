use Rattle.run_windows.specs.Costs.{no_section}
use Rattle.run_costs.specs.CostsOf.{IsTaskSection}
use Rattle.run_costs.specs.CostsOf.{AreEach}
use Rattle.run_costs.proofs.sections.sections.Given as goal

abbrev pub invariant-loop-task : goal.invariant-loop-task
invariant-loop-task l = AreEach l.task (no_section) (IsTaskSection l.fn.walks.config l.fn.walks.app l.weights l.h) l.list.items
