use Rattle.std.proofs.Common.{rules}
use Rattle.asm_scopes.specs.Statements.{declares, name_of}
use Rattle.text_pieces.proofs.Passing.{passes, fails}
use Rattle.asm_scopes.proofs.statements.names_declared.Goals as goal
use Rattle.asm_scopes.proofs.statements.names_declared.Goals.{then-declares+in_ok-names, else-declares}

pub loop-line-preserved : goal.loop-line-preserved
loop-line-preserved c =
    let xs = c.args.lines.now in
    let i = c.loop-line.line-index in
    let x = c.line-item.result in
    elim c.if-declares.branch [
      | then-declares+in_ok-names w ↦
          let h = passes (declares c.args.kind) name_of xs i x c.loop-line.names c.loop-line-test.true c.line-item.is (search rules) c.loop-line.invariant in
          search rules
      | else-declares w ↦
          let h = fails (declares c.args.kind) name_of xs i x c.loop-line.names c.loop-line-test.true c.line-item.is (search rules) c.loop-line.invariant in
          search rules
    ]
