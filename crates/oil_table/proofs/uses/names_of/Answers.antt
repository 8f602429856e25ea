use Rattle.std.proofs.Common.{rules}
use Rattle.oil_parse.specs.declared.tree.OilObject.{OilObject}
use Rattle.oil_table.specs.Objects.{is_of_kind}
use Rattle.text_pieces.proofs.Passing.{passes, fails}
use Rattle.oil_table.proofs.uses.names_of.Goals as goal
use Rattle.oil_table.proofs.uses.names_of.Goals.{then-is_of_kind+in_ok-names, else-is_of_kind}

pub loop-object-preserved : goal.loop-object-preserved
loop-object-preserved c =
    let xs = c.args.objects.now in
    let i = c.loop-object.object-index in
    let x = c.object-item.result in
    elim c.if-is_of_kind.branch [
      | then-is_of_kind+in_ok-names w ↦
          let h = passes (is_of_kind c.args.kind.now) (λ (o : OilObject). o.name) xs i x c.loop-object.names c.loop-object-test.true c.object-item.is (search rules) c.loop-object.invariant in
          search rules
      | else-is_of_kind w ↦
          let h = fails (is_of_kind c.args.kind.now) (λ (o : OilObject). o.name) xs i x c.loop-object.names c.loop-object-test.true c.object-item.is (search rules) c.loop-object.invariant in
          search rules
    ]
