use Rattle.run_windows.specs.Costs.{no_makings}
use Rattle.run_costs.specs.RunCosts.{AreRunMakings}
use Rattle.run_costs.specs.CostsOf.{AreEach}
use Rattle.run_costs.proofs.rounds.row.Given as goal

abbrev pub invariant-loop-maker : goal.invariant-loop-maker
invariant-loop-maker l = AreEach l.maker (no_makings) (AreRunMakings l.walks.config l.walks.app l.j) l.row.items
