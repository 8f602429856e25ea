use Rattle.std.proofs.lemmas.Result.{err_from_is_err_and}
use Rattle.run_inputs.proofs.InputErrors.{sources_refused, arrivals_refused}
use Rattle.run_inputs.proofs.inputs.read_inputs.Goals as goal

pub returns-in_err-config-clause-refused : goal.returns-in_err-config-clause-refused
returns-in_err-config-clause-refused c =
    let failed = err_from_is_err_and c.from_residual.result c.from_residual.ensures.1 in
    rw (failed.1, failed.2) (sources_refused c.args.oil.now c.args.src.now c.args.arr.now c.in_err-config.field-0.0 c.in_err-config.ensures.refused)

pub returns-in_err-arrivals-clause-refused : goal.returns-in_err-arrivals-clause-refused
returns-in_err-arrivals-clause-refused c =
    let failed = err_from_is_err_and c.from_residual-in_err-arrivals.result c.from_residual-in_err-arrivals.ensures.1 in
    let texts = c.in_ok-config.field-0 in
    rw (failed.1, failed.2)
    (arrivals_refused c.args.oil.now c.args.src.now c.args.arr.now texts.config texts.app c.in_err-arrivals.field-0.0 c.in_ok-config.ensures.accepted c.in_err-arrivals.ensures.refused)
