use Rattle.wave_text.proofs.Dumping.{gets-kept, gets-no-tasks, gets-task}
use Rattle.wave_text.proofs.dump.Dump.scope.Goals as goal

pub returns-then-keeps : goal.returns-then-keeps
returns-then-keeps c =
    gets-kept c.args.self.now c.args.scope c.args.before.now c.args.after.now c.args.count (c.keeps.ensures c.if-keeps.true)

pub loop-place-init : goal.loop-place-init
loop-place-init c = gets-no-tasks c.args.self.now c.args.scope c.args.before.now c.args.after.now

pub loop-place-preserved : goal.loop-place-preserved
loop-place-preserved c =
    gets-task c.args.self.now c.loop-place.self c.change.new.self c.args.scope c.args.before.now c.args.after.now c.loop-place.place c.first_code.result
    c.signal_width.result c.signal_value.result c.signal_value-in-loop-place.result c.loop-place.invariant c.first_code.ensures.is c.signal_width.ensures c.signal_value.ensures
    c.signal_value-in-loop-place.ensures c.in_ok-change.ensures
