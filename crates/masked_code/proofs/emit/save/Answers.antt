use Rattle.std.proofs.Common.{arith}
use Rattle.std.proofs.lemmas.Int.{ints}
use Rattle.masked_code.proofs.OneMore.{one_more, saves_more}
use Rattle.masked_code.proofs.emit.save.Goals as goal

pub loop-number-preserved : goal.loop-number-preserved
loop-number-preserved c = one_more _ _ _ _ _ _ _ c.in_ok-put.ensures c.sw.ensures (saves_more c.args.end c.loop-number.number c.args.base _ c.loop-number-test.true (omega (arith, ints))) c.loop-number.invariant
