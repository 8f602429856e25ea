use Rattle.std.proofs.Common.{◌≡◌, take}
use Rattle.asm_parse.specs.Operations.{mask_of}
use Rattle.asm_parse.proofs.bodies.joined_masks.Given as goal

abbrev pub invariant-loop-operand : goal.invariant-loop-operand
invariant-loop-operand l = l.mask ≡ mask_of l.config l.scope (take l.operand-index l.operands)
