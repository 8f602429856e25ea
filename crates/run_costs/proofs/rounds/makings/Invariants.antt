use Rattle.std.proofs.Common.{[]}
use Rattle.run_costs.specs.RunCosts.{AreMakingRow}
use Rattle.run_costs.specs.CostsOf.{AreEach}
use Rattle.run_costs.proofs.rounds.makings.Given as goal

abbrev pub invariant-loop-named : goal.invariant-loop-named
invariant-loop-named l = AreEach l.named [] (AreMakingRow l.walks.config l.walks.app) l.table.items
