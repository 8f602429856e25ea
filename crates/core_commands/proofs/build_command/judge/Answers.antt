use Rattle.std.proofs.Common.{◌∙◌, sym, subst}
use Rattle.std.proofs.lemmas.Result.{err_from_is_err_and}
use Rattle.sloth_base.specs.Arrivals.{AreArrivals}
use Rattle.sloth_base.specs.Owners.{owners_in}
use Rattle.core_commands.proofs.Judged.{arrivals_owned, arrivals_refused, texts_refused}
use Rattle.core_commands.proofs.build_command.judge.Goals as goal

pub returns-in_err-built-clause-err : goal.returns-in_err-built-clause-err
returns-in_err-built-clause-err c =
    let failed = err_from_is_err_and c.from_residual.result c.from_residual.ensures.1 in
    rw (failed.1, failed.2)
    (texts_refused c.args.inputs.now.oil.items c.args.inputs.now.src.items c.args.inputs.now.arr.items c.as_slice.result.now c.as_slice-2.result.now
    c.in_err-built.field-0.0 c.as_slice.ensures.value c.as_slice-2.ensures.value c.in_err-built.ensures.refused)

pub returns-in_err-arrivals-clause-err : goal.returns-in_err-arrivals-clause-err
returns-in_err-arrivals-clause-err c =
    let failed = err_from_is_err_and c.from_residual-in_err-arrivals.result c.from_residual-in_err-arrivals.ensures.1 in
    let built = c.in_ok-built.built in
    rw (failed.1, failed.2)
    (arrivals_refused built.config c.items.result.now c.items-2.result.now (c.items.ensures ∙ c.in_ok-built.ensures.names) (c.items-2.ensures ∙ c.in_ok-built.ensures.counters)
    c.args.inputs.now.oil.items c.args.inputs.now.src.items c.args.inputs.now.arr.items c.as_slice.result.now c.as_slice-2.result.now c.as_slice-3.result.now
    built.app c.in_err-arrivals.field-0.0 c.as_slice.ensures.value c.as_slice-2.ensures.value c.as_slice-3.ensures.value c.in_ok-built.ensures.accepted
    c.in_err-arrivals.ensures.refused)

pub returns-clause-in_range : goal.returns-clause-in_range
returns-clause-in_range c =
    let built = c.in_ok-built.built in
    subst (AreArrivals (owners_in built.config)) (sym c.from_vec.ensures)
    (arrivals_owned built.config c.items.result.now c.items-2.result.now (c.items.ensures ∙ c.in_ok-built.ensures.names) (c.items-2.ensures ∙ c.in_ok-built.ensures.counters)
    c.in_ok-arrivals.arrivals.items c.in_ok-arrivals.ensures.in_range)
