use Rattle.std.proofs.Common.{◌≡◌}
use Rattle.call_graph.specs.Tables.{max_below}
use Rattle.walk_sums.specs.Computed.{out_at}
use Rattle.walk_sums.proofs.levels.Caller.most_out.Given as goal

abbrev pub invariant-loop-number : goal.invariant-loop-number
invariant-loop-number l = l.out ≡ max_below l.number (out_at l.self.known l.self.kind l.back)
