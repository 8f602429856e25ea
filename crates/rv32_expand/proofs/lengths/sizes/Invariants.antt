use Rattle.rv32_expand.proofs.AllBodies.{AreSizesTo}
use Rattle.rv32_expand.proofs.lengths.sizes.Given as goal

abbrev pub invariant-loop-body : goal.invariant-loop-body
invariant-loop-body l = AreSizesTo l.app l.app.funcs l.body-index l.sizes.items
