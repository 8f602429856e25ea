use Rattle.walk_sums.specs.CallOrder.{IsLeastRank}
use Rattle.walk_sums.proofs.graph.least.Given as goal

abbrev pub invariant-loop-func : goal.invariant-loop-func
invariant-loop-func l = IsLeastRank l.ranks l.done l.func l.best
