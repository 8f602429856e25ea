use Rattle.std.proofs.Common.{◌≡◌, length, arith}
use Rattle.sloth_base.specs.declared.refusal.Part.TheVariants.{Oil}
use Rattle.oil_rules.specs.AlarmFaults.{BlockFault}
use Rattle.stage_faults.proofs.Telling.{adds_nowhere, adds_more, adds_end}
use Rattle.stage_faults.proofs.oil_blocks.add_blocks.Goals as goal

pub loop-block-init : goal.loop-block-init
loop-block-init c = adds_nowhere Oil (BlockFault c.args.tasks.now c.args.limits) c.args.notes.now.items

pub loop-block-preserved : goal.loop-block-preserved
loop-block-preserved c =
    adds_more Oil (BlockFault c.args.tasks.now c.args.limits) c.args.blocks.now c.loop-block.block-index c.block-item.result c.args.notes.now.items c.loop-block.notes.items
    c.add_block.new.notes.items c.loop-block-test.true c.block-item.is c.loop-block.invariant c.in_ok-add_block.ensures

pub returns : goal.returns
returns c =
    let xs = c.args.blocks.now in
    let e : c.loop-block.block-index ≡ length xs = omega arith in
    adds_end Oil (BlockFault c.args.tasks.now c.args.limits) xs c.loop-block.block-index c.args.notes.now.items c.loop-block.notes.items e c.loop-block.invariant
