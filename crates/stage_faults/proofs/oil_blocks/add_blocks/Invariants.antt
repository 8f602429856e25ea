use Rattle.std.proofs.Common.{take}
use Rattle.sloth_base.specs.declared.refusal.Part.TheVariants.{Oil}
use Rattle.sloth_base.specs.Search.{Somewhere}
use Rattle.oil_rules.specs.AlarmFaults.{BlockFault}
use Rattle.stage_faults.specs.Told.{Adds}
use Rattle.stage_faults.proofs.oil_blocks.add_blocks.Given as goal

abbrev pub invariant-loop-block : goal.invariant-loop-block
invariant-loop-block l = Adds Oil (Somewhere (BlockFault l.tasks l.limits) (take l.block-index l.blocks)) l.initial.notes.items l.notes.items
