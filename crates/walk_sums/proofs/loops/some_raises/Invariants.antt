use Rattle.std.proofs.Common.{◌≡◌}
use Rattle.call_graph.specs.Reached.{any_below}
use Rattle.walk_sums.specs.Loops.{raises_at}
use Rattle.walk_sums.proofs.loops.some_raises.Given as goal

abbrev pub invariant-loop-node : goal.invariant-loop-node
invariant-loop-node l = l.some ≡ any_below l.node (raises_at l.ways l.steps l.ranks)
