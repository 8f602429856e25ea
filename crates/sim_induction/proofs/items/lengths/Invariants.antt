use Rattle.sim_induction.proofs.BodyLengths.{AreLengthsTo}
use Rattle.sim_induction.proofs.items.lengths.Given as goal

abbrev pub invariant-loop-body : goal.invariant-loop-body
invariant-loop-body l = AreLengthsTo l.app l.body-index l.bodies.items
