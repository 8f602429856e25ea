use Rattle.std.proofs.Common.{◌∙◌, ap, length, arith}
use Rattle.asm_scopes.specs.Statements.{is_label, name_of, label_names}
use Rattle.asm_parse.proofs.Numbering.{few_kept}
use Rattle.asm_parse.proofs.bodies.body_content.Goals as goal

pub body_items-requires-clause-labels : goal.body_items-requires-clause-labels
body_items-requires-clause-labels c =
    let e = ap length (c.in_ok-names.ensures ∙ ap label_names c.lines.ensures) in
    let k = few_kept is_label name_of c.args.body.now.lines in
    let f = c.requires.few in
    omega (arith, e, k, f)

pub body_labels-requires-clause-labels : goal.body_labels-requires-clause-labels
body_labels-requires-clause-labels c =
    let e = ap length (c.in_ok-names.ensures ∙ ap label_names c.lines.ensures) in
    let k = few_kept is_label name_of c.args.body.now.lines in
    let f = c.requires.few in
    omega (arith, e, k, f)
