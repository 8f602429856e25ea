use Rattle.std.proofs.lemmas.Result.{err_from_is_err_and}
use Rattle.image_file.proofs.Failing.{missing}
use Rattle.image_file.proofs.Marked.{no_marks}
use Rattle.std.proofs.Common.{arith, ap}
use Rattle.std.proofs.Common.{◌+◌, ◌*◌}
use Rattle.image_file.specs.declared.read.ImageFault.TheVariants as fault
use Rattle.image_file.proofs.header.read_marks.Goals as goal

pub returns-in_err-ok_or-clause-failed : goal.returns-in_err-ok_or-clause-failed
returns-in_err-ok_or-clause-failed c =
    let stands = c.loop-i.invariant.0 in
    let counted = c.loop-i.invariant.1 in
    let more = c.loop-i-test.true in
    let p = err_from_is_err_and c.from_residual.result c.from_residual.ensures.1 in
    let q = missing c.read_mark.result fault.I3 c.in_err-ok_or.field-0.0 c.in_err-ok_or.ensures.value c.read_mark.ensures.none in
    rw (p.1, p.2, q.1) (no_marks c.args.bytes.now c.args.at c.args.count c.args.services c.args.funcs c.args.size (c.args.at + c.loop-i.i * 12) c.loop-i.marks.items
    c.requires.few c.requires.fits stands (omega arith) (ap (λ n. c.args.at + n * 12) counted) q.0)
