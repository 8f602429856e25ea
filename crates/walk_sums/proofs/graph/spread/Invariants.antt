use Rattle.std.proofs.Common.{◌+◌, ◌*◌, length}
use Rattle.walk_sums.proofs.Unseen.{unseen_count}
use Rattle.walk_sums.specs.Search.{IsSpreading}
use Rattle.walk_sums.proofs.graph.spread.Given as goal

abbrev pub invariant-loop-from : goal.invariant-loop-from
invariant-loop-from l = IsSpreading l.ways l.first l.marks l.stack.items

abbrev pub decreases-loop-from : goal.decreases-loop-from
decreases-loop-from l = 2 * unseen_count l.marks + length l.stack.items
