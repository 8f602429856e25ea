use Rattle.std.proofs.Common.{rules}
use Rattle.mem_map.proofs.RunStep.{step, finish}
use Rattle.mem_map.proofs.zones.place_all.Goals as goal

pub loop-len-preserved : goal.loop-len-preserved
loop-len-preserved c =
    step c.args.align _ _ _ _ _ c.args.lengths.now c.loop-len.len-index c.put.result _ c.requires.word c.loop-len-test.true c.put.ensures.is c.put.ensures.placed
    (search rules) c.loop-len.invariant

pub returns-clause-run : goal.returns-clause-run
returns-clause-run c =
    finish c.args.align c.args.region.now _ _ c.args.lengths.now _ c.requires.word c.requires.some c.loop-len-test.false c.requires.room c.loop-len.invariant
