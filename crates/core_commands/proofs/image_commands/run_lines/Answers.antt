use Rattle.std.proofs.lemmas.Result.{err_from_is_err_and}
use Rattle.trace_text.specs.declared.events.Form.TheVariants as form
use Rattle.core_commands.specs.ImageFiles.{end_line}
use Rattle.sloth_runner.specs.Runner.{image_of, given_arrivals, run_text, run_end}
use Rattle.core_commands.proofs.ImageCauses.{took-both, broke-first, broke-second}
use Rattle.core_commands.proofs.image_commands.run_lines.Goals as goal

pub returns-in_err-end-clause-err : goal.returns-in_err-end-clause-err
returns-in_err-end-clause-err g c =
    let failed = err_from_is_err_and c.from_residual.result c.from_residual.ensures.1 in
    rw (failed.1, failed.2)
    (broke-first _ _ _ (end_line (run_end (image_of c.args.runner.now) (given_arrivals c.args.runner.now) c.args.n)) c.in_err-end.ensures.broke)

pub returns-in_err-put_end-clause-err : goal.returns-in_err-put_end-clause-err
returns-in_err-put_end-clause-err g c =
    let failed = err_from_is_err_and c.from_residual-in_err-put_end.result c.from_residual-in_err-put_end.ensures.1 in
    rw (failed.1, failed.2)
    (broke-second _ _ _ (run_text (image_of c.args.runner.now) (given_arrivals c.args.runner.now) form.Counted c.args.n) _ c.in_ok-end.ensures.text
    (rw c.in_ok-end.ensures.end at c.in_err-put_end.ensures.err))

pub returns-clause-text : goal.returns-clause-text
returns-clause-text g c =
    took-both _ _ _ (run_text (image_of c.args.runner.now) (given_arrivals c.args.runner.now) form.Counted c.args.n) _ c.in_ok-end.ensures.text
    (rw c.in_ok-end.ensures.end at c.in_ok-put_end.ensures.ok)
