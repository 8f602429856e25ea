use Rattle.std.proofs.Common.{◌≡◌, ◌∙◌, ap, arith}
use Rattle.std.proofs.lemmas.Result.{err_from_is_err_and}
use Rattle.sloth_io.specs.Sink.{output_with}
use Rattle.trace_text.specs.Summary.{first_kinds}
use Rattle.sloth_runner.proofs.Summed.{took-no-kinds, took-kind, broke-in-kind}
use Rattle.sloth_runner.proofs.summary.put_summary.Goals as goal

pub loop-kind-init : goal.loop-kind-init
loop-kind-init g c = took-no-kinds c.args.counts.now (g.S.Sink.seen c.args.out.now)

pub loop-kind-preserved : goal.loop-kind-preserved
loop-kind-preserved g c =
    took-kind c.args.counts.now (g.S.Sink.seen c.args.out.now) (g.S.Sink.seen c.loop-kind.out) _ c.loop-kind.kind c.loop-kind.invariant c.in_ok-put_kind.ensures.ok

pub returns-in_err-put_kind-clause-err : goal.returns-in_err-put_kind-clause-err
returns-in_err-put_kind-clause-err g c =
    let failed = err_from_is_err_and c.from_residual.result c.from_residual.ensures.1 in
    rw failed.1
    (broke-in-kind c.args.counts.now (g.S.Sink.seen c.args.out.now) (g.S.Sink.seen c.loop-kind.out) _ 10 c.loop-kind.kind (omega arith)
    c.loop-kind.invariant c.in_err-put_kind.ensures.err)

pub returns-clause-ok : goal.returns-clause-ok
returns-clause-ok g c =
    let all : c.loop-kind.kind ≡ 10 = omega arith in
    c.loop-kind.invariant ∙ ap (λ n. output_with (g.S.Sink.seen c.args.out.now) (first_kinds c.args.counts.now n)) all
