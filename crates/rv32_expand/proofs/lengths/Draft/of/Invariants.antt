use Rattle.std.proofs.Common.{◌≡◌, ◌++◌, drop, length}
use Rattle.rv32_expand.proofs.lengths.Draft.of.Given as goal

abbrev pub invariant-loop-kind : goal.invariant-loop-kind
invariant-loop-kind l = record { is : l.draft ++ drop l.kind-index l.kinds ≡ l.kinds; count : length l.draft ≡ l.kind-index }
