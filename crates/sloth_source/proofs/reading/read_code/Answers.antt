use Rattle.std.proofs.Common.{sym, subst}
use Rattle.std.proofs.lemmas.Result.{err_from_is_err_and}
use Rattle.asm_lines.specs.Faults.{source_lines}
use Rattle.sloth_source.specs.SourceText.{BodiesAreNamed}
use Rattle.sloth_source.proofs.Named.{named}
use Rattle.sloth_source.proofs.RankedTexts.{text_refused, cycle_refused}
use Rattle.sloth_source.proofs.reading.read_code.Goals as goal

pub returns-in_err-app-clause-refused : goal.returns-in_err-app-clause-refused
returns-in_err-app-clause-refused c =
    let failed = err_from_is_err_and c.from_residual.result c.from_residual.ensures.1 in
    rw (failed.1, failed.2) (text_refused c.args.text.now c.args.config.now c.in_err-app.field-0.0 c.in_err-app.ensures.refused)

pub returns-in_err-ranks-clause-refused : goal.returns-in_err-ranks-clause-refused
returns-in_err-ranks-clause-refused c =
    let failed = err_from_is_err_and c.from_residual-in_err-ranks.result c.from_residual-in_err-ranks.ensures.1 in
    rw (failed.1, failed.2)
    (cycle_refused c.args.text.now c.args.config.now c.in_ok-app.app c.in_err-ranks.field-0.0
    (record { no_fault = c.in_ok-app.ensures.none; says = c.in_ok-app.ensures.app }) c.in_err-ranks.ensures.refused)

pub returns-clause-has_app : goal.returns-clause-has_app
returns-clause-has_app c = record { no_fault = c.in_ok-app.ensures.none; says = c.in_ok-app.ensures.app }

pub returns-clause-named : goal.returns-clause-named
returns-clause-named c =
    subst (BodiesAreNamed c.args.config.now) (sym c.in_ok-app.ensures.app) (named c.args.config.now (source_lines c.args.text.now))
