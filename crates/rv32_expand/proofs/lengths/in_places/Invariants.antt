use Rattle.std.proofs.Common.{◌≡◌}
use Rattle.rv32_expand.proofs.Filling.{filled}
use Rattle.rv32_expand.proofs.lengths.in_places.Given as goal

abbrev pub invariant-loop-index : goal.invariant-loop-index
invariant-loop-index l = l.code ≡ filled l.kinds l.index
