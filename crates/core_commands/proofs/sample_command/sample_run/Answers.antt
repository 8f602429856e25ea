use Rattle.std.proofs.Common.{◌∙◌, [], refl}
use Rattle.std.proofs.lemmas.Result.{IfErr-weaker, err_from_is_err_and}
use Rattle.core_commands.proofs.Causes.{both-ok}
use Rattle.core_commands.proofs.InOrder.{none-delivered}
use Rattle.core_commands.proofs.SampleCauses.{generated, sample-failed, sample-done, sample-unmade, built-owned}
use Rattle.core_commands.proofs.sample_command.sample_run.Goals as goal

pub returns-clause-err : goal.returns-clause-err
returns-clause-err g c =
    let of = c.in_ok-made.ensures in
    let made = c.in_ok-made.made in
    let is = generated c.args.seed made.built.config made.built.app made.built.image made.arrivals of.accepted of.image of.arrivals of.in_range in
    IfErr-weaker c.perform.result _ _ (λ failure h. sample-failed failure _ _ _ c.args.seed c.args.img.now made.built.image is h)
    (rw (c.items.ensures ∙ of.arrivals) at c.perform.ensures.err)

pub returns-clause-done : goal.returns-clause-done
returns-clause-done g c =
    let of = c.in_ok-made.ensures in
    let made = c.in_ok-made.made in
    let is = generated c.args.seed made.built.config made.built.app made.built.image made.arrivals of.accepted of.image of.arrivals of.in_range in
    both-ok c.perform.result _ _ _ (λ written text. sample-done _ _ _ _ c.args.seed c.args.img.now made.built.image is written text) c.perform.ensures.written
    (rw (c.items.ensures ∙ of.arrivals) at c.perform.ensures.text)

pub returns-in_err-made-clause-reads : goal.returns-in_err-made-clause-reads
returns-in_err-made-clause-reads g c = none-delivered (g.F.Store.seen c.args.files.now) (g.F.Store.seen c.args.files.now) [] refl

pub returns-clause-reads : goal.returns-clause-reads
returns-clause-reads g c =
    none-delivered (g.F.Store.seen c.args.files.now) (g.F.Store.seen c.perform.new.files) [] c.perform.ensures.reads

pub returns-in_err-made-clause-done : goal.returns-in_err-made-clause-done
returns-in_err-made-clause-done g c =
    let failed = err_from_is_err_and c.from_residual.result c.from_residual.ensures.1 in
    rw failed.1 tt

pub returns-in_err-made-clause-err : goal.returns-in_err-made-clause-err
returns-in_err-made-clause-err g c =
    let failed = err_from_is_err_and c.from_residual.result c.from_residual.ensures.1 in
    rw (failed.1, failed.2)
    (sample-unmade c.in_err-made.field-0.0 (g.F.Store.seen c.args.files.now) (g.S.Sink.seen c.args.out.now) c.args.seed c.args.img.now c.in_err-made.ensures.err)

pub perform-requires-clause-format : goal.perform-requires-clause-format
perform-requires-clause-format g c = c.in_ok-made.ensures.image.format

pub perform-requires-clause-arrivals : goal.perform-requires-clause-arrivals
perform-requires-clause-arrivals g c =
    let made = c.in_ok-made.made in
    rw c.items.ensures (built-owned made.built.config made.built.app made.built.image made.arrivals c.in_ok-made.ensures.image c.in_ok-made.ensures.in_range)
