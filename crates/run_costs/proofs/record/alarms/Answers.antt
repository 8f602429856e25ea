use Rattle.sloth_base.specs.declared.config.AlarmDecl.{AlarmDecl}
use Rattle.std.proofs.Common.{List, arith, length, sym, subst, ◌≤◌}
use Rattle.run_windows.specs.declared.costs.AlarmCosts.{AlarmCosts}
use Rattle.run_costs.specs.CostsOf.{AreEach, no_alarm, IsAlarm}
use Rattle.run_costs.proofs.Growing.{each_more, each_of}
use Rattle.run_costs.proofs.record.alarms.Goals as goal

pub loop-number-preserved : goal.loop-number-preserved
loop-number-preserved c =
    each_more (AlarmCosts) (IsAlarm c.args.config.now c.args.app.now) c.loop-number.list.items c.push.new.list.items c.alarm.result (no_alarm) c.loop-number.number c.loop-number.invariant c.in_ok-push.ensures c.alarm.ensures

pub returns : goal.returns
returns c =
    let over = subst (λ (x : List AlarmDecl). length x ≤ c.loop-number.number) c.items-number-end.ensures c.loop-number-test.false in
    let most = subst (λ (x : List AlarmDecl). c.loop-number.number ≤ length x) c.items-number-end.ensures c.loop-number.auto.number-end in
    subst (AreEach (length c.args.config.now.alarms) no_alarm (IsAlarm c.args.config.now c.args.app.now)) (sym c.from_vec.ensures)
    (each_of (AlarmCosts) (IsAlarm c.args.config.now c.args.app.now) c.loop-number.list.items (no_alarm) c.loop-number.number (length c.args.config.now.alarms) (omega (arith, over, most)) c.loop-number.invariant)
