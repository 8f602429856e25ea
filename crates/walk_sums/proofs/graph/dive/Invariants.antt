use Rattle.std.proofs.Common.{◌+◌, ◌*◌, length}
use Rattle.walk_sums.specs.Graph.{IsSearching, AreStillSeen}
use Rattle.walk_sums.proofs.Unseen.{unseen_count}
use Rattle.walk_sums.proofs.graph.dive.Given as goal

abbrev pub invariant-loop-from : goal.invariant-loop-from
invariant-loop-from l = record { searching : IsSearching l.ways l.seen l.done l.stack.items l.order.items; keeps : AreStillSeen l.fn.seen l.seen }

abbrev pub decreases-loop-from : goal.decreases-loop-from
decreases-loop-from l = 2 * unseen_count l.seen + length l.stack.items
