use Rattle.std.proofs.lemmas.Nat.{one_shl, and_mask}
use Rattle.rv32_instr.proofs.decoding.bits.Goals as goal

pub returns-clause-is : goal.returns-clause-is
returns-clause-is c = rw (one_shl c.args.count 32 c.requires.1) (and_mask _ c.args.count)
