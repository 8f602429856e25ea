use Rattle.std.proofs.lemmas.Result.{err_from_is_err_and}
use Rattle.sloth_source.proofs.RankedTexts.{oil_refused, code_refused}
use Rattle.sloth_source.proofs.reading.read_ranked.Goals as goal

pub returns-in_err-config-clause-refused : goal.returns-in_err-config-clause-refused
returns-in_err-config-clause-refused c =
    let failed = err_from_is_err_and c.from_residual.result c.from_residual.ensures.1 in
    rw (failed.1, failed.2) (oil_refused c.args.oil.now c.args.src.now c.in_err-config.field-0.0 c.in_err-config.ensures.refused)

pub returns-in_err-app-clause-refused : goal.returns-in_err-app-clause-refused
returns-in_err-app-clause-refused c =
    let failed = err_from_is_err_and c.from_residual-in_err-app.result c.from_residual-in_err-app.ensures.1 in
    rw (failed.1, failed.2)
    (code_refused c.args.oil.now c.args.src.now c.in_ok-config.config c.in_err-app.field-0.0 c.in_ok-config.ensures.config c.in_err-app.ensures.refused)

pub returns-clause-has_ranks : goal.returns-clause-has_ranks
returns-clause-has_ranks c =
    record {
      configuration = c.in_ok-config.ensures.config;
      has_app = c.in_ok-app.ensures.has_app;
      no_cycle = c.in_ok-app.ensures.no_cycle;
    }
