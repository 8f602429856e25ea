use Rattle.std.proofs.Common.{◌∙◌, sym}
use Rattle.std.proofs.lemmas.Result.{err_from_is_err_and}
use Rattle.sloth_io.proofs.LinePuts.{cut-rest, put-broke, put-more, put-none, put-part}
use Rattle.sloth_io.proofs.sink.put_lines.Goals as goal

pub loop-rest-init : goal.loop-rest-init
loop-rest-init g c = put-none (g.S.Sink.seen c.args.out.now) (g.S.Sink.pieces c.args.out.now) c.args.text.now

pub loop-rest-preserved : goal.loop-rest-preserved
loop-rest-preserved g c =
    put-more (g.S.Sink.seen c.args.out.now) (g.S.Sink.seen c.loop-rest.out) (g.S.Sink.seen c.put.new.self) (g.S.Sink.pieces c.args.out.now)
    (g.S.Sink.pieces c.loop-rest.out) (g.S.Sink.pieces c.put.new.self) c.args.text.now c.loop-rest.rest.now c.split_at.result.0.now c.split_at.result.1.now
    c.loop-rest.invariant c.split_at.ensures.by_index.0
    (cut-rest c.loop-rest.rest.now c.line_length.result c.split_at.result.0.now c.split_at.result.1.now (sym c.is_empty.ensures ∙ c.loop-rest-test.true)
    c.line_length.ensures.size c.split_at.ensures.front c.split_at.ensures.back)
    c.in_ok-put.ensures.ok c.put.ensures.pieces

pub returns-in_err-put-clause-err : goal.returns-in_err-put-clause-err
returns-in_err-put-clause-err g c =
    let failed = err_from_is_err_and c.from_residual.result c.from_residual.ensures.1 in
    rw failed.1
    (put-part (g.S.Sink.seen c.args.out.now) (g.S.Sink.seen c.loop-rest.out) (g.S.Sink.seen c.put.new.self) (g.S.Sink.pieces c.args.out.now)
    (g.S.Sink.pieces c.loop-rest.out) c.args.text.now c.loop-rest.rest.now c.split_at.result.0.now c.split_at.result.1.now
    c.loop-rest.invariant c.split_at.ensures.by_index.0 c.in_err-put.ensures.err)

pub returns-in_err-put-clause-broken : goal.returns-in_err-put-clause-broken
returns-in_err-put-clause-broken g c =
    let failed = err_from_is_err_and c.from_residual.result c.from_residual.ensures.1 in
    rw failed.1
    (put-broke (g.S.Sink.seen c.args.out.now) (g.S.Sink.seen c.loop-rest.out) (g.S.Sink.seen c.put.new.self) (g.S.Sink.pieces c.args.out.now)
    (g.S.Sink.pieces c.loop-rest.out) (g.S.Sink.pieces c.put.new.self) c.args.text.now c.loop-rest.rest.now c.split_at.result.0.now c.split_at.result.1.now
    c.loop-rest.invariant
    (cut-rest c.loop-rest.rest.now c.line_length.result c.split_at.result.0.now c.split_at.result.1.now (sym c.is_empty.ensures ∙ c.loop-rest-test.true)
    c.line_length.ensures.size c.split_at.ensures.front c.split_at.ensures.back)
    c.in_err-put.ensures.err c.put.ensures.pieces)
