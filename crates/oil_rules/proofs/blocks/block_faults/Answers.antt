use Rattle.sloth_base.proofs.Kept.{loop_more, loop_end}
use Rattle.oil_rules.specs.AlarmFaults.{BlockFault}
use Rattle.oil_rules.proofs.blocks.block_faults.Goals as goal

pub loop-block-preserved : goal.loop-block-preserved
loop-block-preserved c =
    loop_more (BlockFault c.args.tasks.now c.args.limits) c.args.blocks.now c.loop-block.block-index c.block-item.result c.loop-block.least c.in_ok-found.found
    c.merge-least.result c.loop-block-test.true c.block-item.is c.in_ok-found.ensures c.merge-least.ensures c.loop-block.invariant

pub returns : goal.returns
returns c =
    loop_end (BlockFault c.args.tasks.now c.args.limits) c.args.blocks.now c.loop-block.block-index c.loop-block.least c.loop-block-test.false c.loop-block.invariant
