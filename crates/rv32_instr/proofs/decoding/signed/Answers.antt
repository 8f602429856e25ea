use Rattle.std.proofs.Common.{◌<◌, ◌^◌, arith}
use Rattle.std.proofs.lemmas.Nat.{one_shl, pow_below}
use Rattle.std.proofs.lemmas.Int.{ints}
use Rattle.rv32_instr.proofs.decoding.signed.Goals as goal

pub overflow_sub-result : goal.overflow_sub-result
overflow_sub-result c =
    let p : 2 ^ c.args.count < 2 ^ 31 = pow_below c.args.count 31 c.requires.1 in
    rw (one_shl c.args.count 32 (omega arith)) (omega (arith, ints))
