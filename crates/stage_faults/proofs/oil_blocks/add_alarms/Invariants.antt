use Rattle.std.proofs.Common.{take}
use Rattle.sloth_base.specs.declared.refusal.Part.TheVariants.{Oil}
use Rattle.sloth_base.specs.Search.{Somewhere}
use Rattle.oil_rules.specs.AlarmFaults.{AlarmFault}
use Rattle.stage_faults.specs.Told.{Adds}
use Rattle.stage_faults.proofs.oil_blocks.add_alarms.Given as goal

abbrev pub invariant-loop-number : goal.invariant-loop-number
invariant-loop-number l = Adds Oil (Somewhere (AlarmFault l.tasks) (take l.number l.objects)) l.initial.notes.items l.notes.items
