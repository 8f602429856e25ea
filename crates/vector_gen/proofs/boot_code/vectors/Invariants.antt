use Rattle.vector_gen.specs.Vectors.{AreJumps}
use Rattle.vector_gen.proofs.boot_code.vectors.Given as goal

abbrev pub invariant-loop-line : goal.invariant-loop-line
invariant-loop-line l = AreJumps l.line l.map.handlers l.code.items
