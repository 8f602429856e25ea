use Rattle.sloth_base.specs.declared.config.Config.{Config}
use Rattle.sloth_base.specs.declared.config.AlarmDecl.{AlarmDecl}
use Rattle.std.proofs.Common.{List, arith, length, subst, ◌≤◌, ap, ◌∙◌}
use Rattle.run_costs.specs.declared.services.SettingTops.{SettingTops}
use Rattle.run_costs.specs.Coming.{no_setting, AreSettingTops}
use Rattle.run_costs.proofs.Growing.{each_more, each_of}
use Rattle.run_costs.proofs.services.all_setting_tops.Goals as goal

pub loop-alarm-preserved : goal.loop-alarm-preserved
loop-alarm-preserved c =
    each_more (SettingTops) (λ a tops. AreSettingTops c.args.walks.now.config c.args.walks.now.app a tops) c.loop-alarm.all.items c.push.new.list.items c.in_ok-tops.tops (no_setting) c.loop-alarm.alarm c.loop-alarm.invariant c.in_ok-push.ensures c.in_ok-tops.ensures

pub returns : goal.returns
returns c =
    let alarms = c.items-alarm-end.ensures ∙ ap (λ (g : Config). g.alarms) c.config-config.ensures.is in
    let over = subst (λ (x : List AlarmDecl). length x ≤ c.loop-alarm.alarm) alarms c.loop-alarm-test.false in
    let most = subst (λ (x : List AlarmDecl). c.loop-alarm.alarm ≤ length x) alarms c.loop-alarm.auto.alarm-end in
    each_of (SettingTops) (λ a tops. AreSettingTops c.args.walks.now.config c.args.walks.now.app a tops) c.loop-alarm.all.items (no_setting) c.loop-alarm.alarm (length c.args.walks.now.config.alarms) (omega (arith, over, most)) c.loop-alarm.invariant
