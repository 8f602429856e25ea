use Rattle.sloth_base.proofs.Kept.{Loop}
use Rattle.oil_rules.specs.AlarmFaults.{BlockFault}
use Rattle.oil_rules.proofs.blocks.block_faults.Given as goal

abbrev pub invariant-loop-block : goal.invariant-loop-block
invariant-loop-block l = Loop (BlockFault l.tasks l.limits) l.blocks l.block-index l.least
