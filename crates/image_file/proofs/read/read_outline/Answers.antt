use Rattle.std.proofs.Common.{ℕ, rules, subst}
use Rattle.std.proofs.lemmas.Result.{err_from_is_err_and, IfErr-weaker}
use Rattle.image_file.specs.Reading.{HasSizes, IsPartsError}
use Rattle.image_file.proofs.Failing.{missing, parts_fail}
use Rattle.image_file.proofs.Parted.{sizes_of}
use Rattle.image_file.specs.declared.read.ImageFault.TheVariants as fault
use Rattle.image_file.proofs.read.read_outline.Goals as goal

pub returns-in_err-sizes-clause-failed : goal.returns-in_err-sizes-clause-failed
returns-in_err-sizes-clause-failed c =
    let p = err_from_is_err_and c.from_residual.result c.from_residual.ensures.1 in
    let q = missing c.read_sizes.result fault.I2 c.in_err-sizes.field-0.0 c.in_err-sizes.ensures.value c.read_sizes.ensures.none in
    rw (p.1, p.2, q.1) (c.has_magic.ensures.0 c.if-not-has_magic.false, λ parts rest has. q.0 _ (sizes_of c.args.bytes.now parts rest has).0)

pub returns-clause-failed : goal.returns-clause-failed
returns-clause-failed c =
    let file = c.args.bytes.now in
    let s = c.in_ok-sizes.sizes in
    let has : HasSizes file s = search rules in
    IfErr-weaker c.read_parts.result _ _ (λ f h.
    parts_fail f file s (c.has_magic.ensures.0 c.if-not-has_magic.false) has (subst (λ (n : ℕ). IsPartsError f file n s) c.header.ensures h)) c.read_parts.ensures.failed
