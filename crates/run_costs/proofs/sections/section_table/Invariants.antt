use Rattle.std.proofs.Common.{[]}
use Rattle.run_costs.specs.RunCosts.{AreSectionMakingRow}
use Rattle.run_costs.specs.CostsOf.{AreEach}
use Rattle.run_costs.proofs.sections.section_table.Given as goal

abbrev pub invariant-loop-j : goal.invariant-loop-j
invariant-loop-j l = AreEach l.j [] (AreSectionMakingRow l.walks.config l.walks.app l.h) l.table.items
