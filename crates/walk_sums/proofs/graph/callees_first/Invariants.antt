use Rattle.walk_sums.proofs.Unseen.{unseen_count}
use Rattle.walk_sums.proofs.CallOrdering.{IsOrdering}
use Rattle.walk_sums.proofs.graph.callees_first.Given as goal

abbrev pub invariant-loop-func : goal.invariant-loop-func
invariant-loop-func l = IsOrdering l.app l.done.items l.order.items

abbrev pub decreases-loop-func : goal.decreases-loop-func
decreases-loop-func l = unseen_count l.done.items
