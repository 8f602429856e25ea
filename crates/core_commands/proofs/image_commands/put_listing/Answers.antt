use Rattle.std.proofs.Common.{◌≡◌, ◌+◌, ◌/◌, ◌∙◌, length, ap, arith}
use Rattle.std.proofs.lemmas.Result.{err_from_is_err_and}
use Rattle.sloth_io.specs.Sink.{output_with}
use Rattle.trace_text.specs.Listing.{first_lines}
use Rattle.core_commands.proofs.Listed.{took-none, took-more, broke-later}
use Rattle.core_commands.proofs.image_commands.put_listing.Goals as goal

pub loop-k-init : goal.loop-k-init
loop-k-init g c = took-none c.args.image.now (g.S.Sink.seen c.args.out.now)

pub loop-k-preserved : goal.loop-k-preserved
loop-k-preserved g c =
    took-more c.args.image.now (g.S.Sink.seen c.args.out.now) (g.S.Sink.seen c.loop-k.out) _ c.loop-k.k c.loop-k.invariant c.in_ok-put_line.ensures.ok

pub returns-in_err-put_line-clause-err : goal.returns-in_err-put_line-clause-err
returns-in_err-put_line-clause-err g c =
    let failed = err_from_is_err_and c.from_residual.result c.from_residual.ensures.1 in
    let same = ap length c.items.ensures in
    rw failed.1
    (broke-later c.args.image.now (g.S.Sink.seen c.args.out.now) (g.S.Sink.seen c.loop-k.out) _ (length c.args.image.now.memory / 4 + 1) c.loop-k.k (omega (arith, same))
    c.loop-k.invariant c.in_err-put_line.ensures.err)

pub returns-clause-ok : goal.returns-clause-ok
returns-clause-ok g c =
    let same = ap length c.items.ensures in
    let all : c.loop-k.k ≡ length c.args.image.now.memory / 4 + 1 = omega (arith, same) in
    c.loop-k.invariant ∙ ap (λ n. output_with (g.S.Sink.seen c.args.out.now) (first_lines c.args.image.now n)) all
