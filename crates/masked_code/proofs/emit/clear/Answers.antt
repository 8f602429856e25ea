use Rattle.masked_code.proofs.OneMore.{one_more, clears_more}
use Rattle.masked_code.proofs.emit.clear.Goals as goal

pub loop-number-preserved : goal.loop-number-preserved
loop-number-preserved c = one_more _ _ _ _ _ _ _ c.in_ok-put.ensures c.addi.ensures (clears_more c.args.end c.loop-number.number c.loop-number-test.true) c.loop-number.invariant
