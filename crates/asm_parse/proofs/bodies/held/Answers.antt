use Rattle.std.proofs.Common.{refl}
use Rattle.asm_scopes.specs.Statements.{written_name}
use Rattle.asm_parse.specs.Apps.{held_resource_by, holds_of}
use Rattle.asm_parse.proofs.Made.{read_one}
use Rattle.asm_parse.proofs.bodies.held.Goals as goal

pub loop-operand-preserved : goal.loop-operand-preserved
loop-operand-preserved c =
    let scope = c.args.scope.now in
    let xs = c.args.operands.now in
    let x = c.operand-item.result in
    read_one (holds_of scope) (holds_of scope) c.loop-operand.holds.items c.add_hold.new.holds.items (held_resource_by scope (written_name x)) (holds_of scope xs)
    xs c.loop-operand.operand-index x c.loop-operand-test.true c.operand-item.is refl c.in_ok-add_hold.ensures c.loop-operand.invariant
