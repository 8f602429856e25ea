use Rattle.sloth_base.proofs.Kept.{Loop}
use Rattle.oil_rules.specs.AlarmFaults.{AlarmFault}
use Rattle.oil_rules.proofs.blocks.judge_alarms.Given as goal

abbrev pub invariant-loop-object : goal.invariant-loop-object
invariant-loop-object l = Loop (AlarmFault l.tasks) l.objects l.object-index l.least
