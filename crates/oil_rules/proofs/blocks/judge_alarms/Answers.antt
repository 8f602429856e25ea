use Rattle.sloth_base.proofs.Kept.{loop_more, loop_end}
use Rattle.oil_rules.specs.AlarmFaults.{AlarmFault}
use Rattle.oil_rules.proofs.blocks.judge_alarms.Goals as goal

pub loop-object-preserved : goal.loop-object-preserved
loop-object-preserved c =
    loop_more (AlarmFault c.args.tasks.now) c.args.objects.now c.loop-object.object-index c.object-item.result c.loop-object.least c.in_ok-found.found
    c.merge-least.result c.loop-object-test.true c.object-item.is c.in_ok-found.ensures c.merge-least.ensures c.loop-object.invariant

pub returns : goal.returns
returns c = loop_end (AlarmFault c.args.tasks.now) c.args.objects.now c.loop-object.object-index c.loop-object.least c.loop-object-test.false c.loop-object.invariant
