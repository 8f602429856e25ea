use Rattle.rv32_expand.proofs.PassTo.{IsPassTo}
use Rattle.rv32_expand.proofs.lengths.pass.Given as goal

abbrev pub invariant-loop-index : goal.invariant-loop-index
invariant-loop-index l = IsPassTo l.app l.body l.long l.index l.lengthened.items l.changed
