use Rattle.std.proofs.lemmas.Result.{err_from_is_err_and}
use Rattle.std.proofs.Common.{◌∙◌, ap, subst, length, List, arith}
use Rattle.sloth_base.specs.Order.{NoFault, IsLeast}
use Rattle.asm_lines.specs.declared.source_line.SourceLine.{SourceLine}
use Rattle.asm_lines.proofs.Counts.{lines_few}
use Rattle.asm_parse.specs.NameFaults.{NameFault}
use Rattle.asm_parse.specs.Apps.{app_of}
use Rattle.asm_parse.proofs.Range.{text_in_range}
use Rattle.asm_parse.proofs.Stages.{earlier_error, later, none}
use Rattle.asm_parse.proofs.apps.parse_app.Goals as goal

pub judged_app-requires-clause-few : goal.judged_app-requires-clause-few
judged_app-requires-clause-few c =
    let e = ap length (c.items.ensures ∙ c.in_ok-lines.ensures.lines) in
    let f = lines_few c.args.text.now in
    let t = c.requires.text in
    omega (arith, e, f, t)

pub returns-in_err-lines-clause-refused : goal.returns-in_err-lines-clause-refused
returns-in_err-lines-clause-refused c =
    let f = err_from_is_err_and c.from_residual.result c.from_residual.ensures.1 in
    rw (f.1, f.2) (earlier_error c.args.config.now c.args.text.now c.in_err-lines.field-0.0 c.in_err-lines.ensures.refused)

pub returns-in-Ok-Ok-clause-none : goal.returns-in-Ok-Ok-clause-none
returns-in-Ok-Ok-clause-none c =
    let found = rw c.in-Ok-Ok.field-0-is at c.in-Ok-Ok.ensures.none in
    none c.args.config.now c.args.text.now c.in_ok-lines.ensures.none
    (subst (λ (ls : List SourceLine). NoFault (NameFault c.args.config.now ls)) (c.items.ensures ∙ c.in_ok-lines.ensures.lines) found)

pub returns-in-Ok-Err-clause-refused : goal.returns-in-Ok-Err-clause-refused
returns-in-Ok-Err-clause-refused c =
    let found = rw c.in-Ok-Err.field-0-is at c.in-Ok-Err.ensures.refused in
    later c.args.config.now c.args.text.now c.in-Ok-Err.refusal c.in_ok-lines.ensures.none
    (subst (λ (ls : List SourceLine). IsLeast (NameFault c.args.config.now ls) c.in-Ok-Err.refusal) (c.items.ensures ∙ c.in_ok-lines.ensures.lines) found)

pub returns-in-Ok-Ok-clause-in_range : goal.returns-in-Ok-Ok-clause-in_range
returns-in-Ok-Ok-clause-in_range c =
    let says = rw c.in-Ok-Ok.field-0-is at c.in-Ok-Ok.ensures.app in
    let same = c.items.ensures ∙ c.in_ok-lines.ensures.lines in
    text_in_range c.args.text.now c.args.config.now c.in-Ok-Ok.app c.requires.config (returns-in-Ok-Ok-clause-none c) (says ∙ ap (app_of c.args.config.now) same)
