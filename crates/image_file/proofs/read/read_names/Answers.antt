use Rattle.std.proofs.lemmas.Result.{err_from_is_err_and}
use Rattle.image_file.proofs.Failing.{missing}
use Rattle.image_file.proofs.Standing.{no_names}
use Rattle.std.proofs.Common.{arith}
use Rattle.image_file.specs.declared.read.ImageFault.TheVariants as fault
use Rattle.image_file.proofs.read.read_names.Goals as goal

pub returns-in_err-next-clause-failed : goal.returns-in_err-next-clause-failed
returns-in_err-next-clause-failed c =
    let stands = c.loop.invariant.0 in
    let counted = c.loop.invariant.1 in
    let more = c.loop-test.true in
    let p = err_from_is_err_and c.from_residual.result c.from_residual.ensures.1 in
    let q = missing c.name_end.result fault.I2 c.in_err-next.field-0.0 c.in_err-next.ensures.value c.name_end.ensures.none in
    rw (p.1, p.2, q.1) (no_names c.args.bytes.now c.args.at c.args.count c.loop.end c.loop.names.items stands (omega arith) q.0)
