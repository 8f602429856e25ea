use Rattle.std.proofs.Common.{rules}
use Rattle.asm_scopes.specs.Bodies.{is_body_of, body_name}
use Rattle.text_pieces.proofs.Passing.{passes, fails}
use Rattle.asm_scopes.proofs.tables.names_of_bodies.Goals as goal
use Rattle.asm_scopes.proofs.tables.names_of_bodies.Goals.{then-is_wanted+in_ok-names, else-is_wanted}

pub loop-body-preserved : goal.loop-body-preserved
loop-body-preserved c =
    let xs = c.args.bodies.now in
    let i = c.loop-body.body-index in
    let x = c.body-item.result in
    elim c.if-is_wanted.branch [
      | then-is_wanted+in_ok-names w ↦
          let h = passes (is_body_of c.args.of_tasks) body_name xs i x c.loop-body.names c.loop-body-test.true c.body-item.is (search rules) c.loop-body.invariant in
          search rules
      | else-is_wanted w ↦
          let h = fails (is_body_of c.args.of_tasks) body_name xs i x c.loop-body.names c.loop-body-test.true c.body-item.is (search rules) c.loop-body.invariant in
          search rules
    ]
