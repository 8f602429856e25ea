use Rattle.run_windows.specs.Costs.{no_level}
use Rattle.run_costs.specs.RunCosts.{IsRunLevel}
use Rattle.run_costs.specs.CostsOf.{AreEach}
use Rattle.run_costs.proofs.sections.levels.Given as goal

abbrev pub invariant-loop-h : goal.invariant-loop-h
invariant-loop-h l = AreEach l.h (no_level) (IsRunLevel l.walks.config l.walks.app l.weights) l.list.items
