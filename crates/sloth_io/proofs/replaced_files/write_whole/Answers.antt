use Rattle.std.proofs.Common.{subst, sym, ap, take, arith}
use Rattle.std.specs.Io.KnownBytes.{Appends}
use Rattle.std.proofs.KnownBytes.{Appends-trans}
use Rattle.std.proofs.Math.Seq.{take-add}
use Rattle.std.proofs.lemmas.List.{take_rest}
use Rattle.sloth_io.proofs.replaced_files.write_whole.Goals as goal

-- the bytes taken so far, and then those of one call more
pub loop-taken-preserved : goal.loop-taken-preserved
loop-taken-preserved g c =
    let (most, appended) = c.loop-taken.invariant in
    let bytes = c.args.bytes.now in
    let rest = ap (take c.in-Ok.count) (take_rest bytes c.loop-taken.taken) in
    let more = Appends-trans _ _ _ _ _ appended (subst (Appends _ _) rest c.in-Ok.ensures.bytes) in
    (omega (arith, c.in-Ok.ensures.bound, most), subst (Appends _ _) (sym (take-add c.loop-taken.taken c.in-Ok.count bytes)) more)
