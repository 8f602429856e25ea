use Rattle.response_reasons.proofs.Doubling.{AreSome}
use Rattle.response_reasons.proofs.loops.doubled.Given as goal

abbrev pub invariant-loop-node : goal.invariant-loop-node
invariant-loop-node l = AreSome l.ways l.steps l.twice.items l.node
