use Rattle.std.proofs.Common.{◌∙◌, ◌+◌, ap, take, length-take, arith}
use Rattle.std.specs.Prelude.{if◌then◌else◌}
use Rattle.std.proofs.lemmas.List.Sums.{count_by-le-length}
use Rattle.asm_scopes.specs.Statements.{is_item}
use Rattle.asm_parse.proofs.Fronts.{count_more}
use Rattle.asm_parse.proofs.body_faults.count_items.Goals as goal

pub loop-line-preserved : goal.loop-line-preserved
loop-line-preserved c =
    ap (λ k. c.loop-line.items + k) c.count_item-items.ensures ∙ ap (λ k. k + (if is_item c.line-item.result then 1 else 0)) c.loop-line.invariant
    ∙ count_more is_item c.args.lines.now c.loop-line.line-index c.line-item.result c.loop-line-test.true c.line-item.is

pub returns-clause-few : goal.returns-clause-few
returns-clause-few c =
    let n = count_by-le-length is_item (take c.loop-line.line-index c.args.lines.now) in
    let t = length-take c.loop-line.line-index c.args.lines.now in
    let i = c.loop-line.invariant in
    omega (arith, n, t, i)
