use Rattle.run_costs.specs.CostsOf.{no_counter}
use Rattle.run_costs.specs.RunCosts.{IsRunCounter}
use Rattle.run_costs.specs.CostsOf.{AreEach}
use Rattle.run_costs.proofs.record.counters.Given as goal

abbrev pub invariant-loop-number : goal.invariant-loop-number
invariant-loop-number l = AreEach l.number (no_counter) (IsRunCounter l.config l.load) l.list.items
