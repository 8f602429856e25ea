use Rattle.std.proofs.Common.{◌≡◌}
use Rattle.call_graph.specs.Tables.{max_below}
use Rattle.walk_sums.specs.Computed.{most_at}
use Rattle.walk_sums.proofs.levels.Caller.most.Given as goal

abbrev pub invariant-loop-number : goal.invariant-loop-number
invariant-loop-number l = l.most ≡ max_below l.number (most_at l.self.known l.self.kind l.on)
