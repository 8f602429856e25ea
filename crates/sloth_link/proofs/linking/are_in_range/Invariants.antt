use Rattle.std.proofs.Common.{take}
use Rattle.std.specs.Prelude.{All}
use Rattle.rv32_instr.specs.Range.{InRange}
use Rattle.sloth_link.proofs.linking.are_in_range.Given as goal

abbrev pub invariant-loop-block : goal.invariant-loop-block
invariant-loop-block l = All (λ b. All InRange b.code) (take l.block-index l.blocks)
