use Rattle.std.proofs.Common.{◌≡◌, ◌++◌, drop}
use Rattle.asm_parse.specs.Apps.{holds_of}
use Rattle.asm_parse.proofs.bodies.held.Given as goal

abbrev pub invariant-loop-operand : goal.invariant-loop-operand
invariant-loop-operand l = l.holds.items ++ holds_of l.scope (drop l.operand-index l.operands) ≡ holds_of l.scope l.operands
