use Rattle.std.proofs.Common.{[]}
use Rattle.run_costs.specs.CostsOf.{AreEach, AreServiceRow}
use Rattle.run_costs.proofs.services.services.Given as goal

abbrev pub invariant-loop-named : goal.invariant-loop-named
invariant-loop-named l = AreEach l.named [] (AreServiceRow l.walks.config l.walks.app) l.table.items
