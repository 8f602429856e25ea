use Rattle.std.proofs.Common.{◌≡◌, length, arith}
use Rattle.sloth_base.specs.declared.refusal.Part.TheVariants.{Oil}
use Rattle.oil_rules.specs.AlarmFaults.{AlarmFault}
use Rattle.stage_faults.proofs.Telling.{adds_nowhere, adds_more, adds_end}
use Rattle.stage_faults.proofs.oil_blocks.add_alarms.Goals as goal

pub loop-number-init : goal.loop-number-init
loop-number-init c = adds_nowhere Oil (AlarmFault c.args.tasks.now) c.args.notes.now.items

pub loop-number-preserved : goal.loop-number-preserved
loop-number-preserved c =
    adds_more Oil (AlarmFault c.args.tasks.now) c.args.objects.now c.loop-number.number c.index-objects-number.result c.args.notes.now.items c.loop-number.notes.items
    c.add_alarm.new.notes.items c.loop-number-test.true c.index-objects-number.is c.loop-number.invariant c.in_ok-add_alarm.ensures

pub returns : goal.returns
returns c =
    let xs = c.args.objects.now in
    let e : c.loop-number.number ≡ length xs = omega arith in
    adds_end Oil (AlarmFault c.args.tasks.now) xs c.loop-number.number c.args.notes.now.items c.loop-number.notes.items e c.loop-number.invariant
