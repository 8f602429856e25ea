use Rattle.rv32_expand.proofs.InRangeOf.{frame_of}
use Rattle.std.proofs.Common.{arith}
use Rattle.rv32_expand.proofs.Counts.{size_is, size_few}
use Rattle.rv32_expand.proofs.laws.expansions_are_few.Goals as goal

pub returns : goal.returns
returns c = λ app code places func address long o.
    let e = size_is app places func address long o in
    let f = size_few app (frame_of app code) long o in
    (omega (arith, e, f.some), omega (arith, e, f.few))
