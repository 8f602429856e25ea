use Rattle.run_windows.specs.Costs.{no_section_makings}
use Rattle.run_costs.specs.RunCosts.{IsRunSectionMaking}
use Rattle.run_costs.specs.CostsOf.{AreEach}
use Rattle.run_costs.proofs.sections.makers.Given as goal

abbrev pub invariant-loop-task : goal.invariant-loop-task
invariant-loop-task l = AreEach l.task (no_section_makings) (IsRunSectionMaking l.walks.config l.walks.app l.h l.j) l.row.items
