use Rattle.std.proofs.Common.{◌≤◌, List, length, subst, arith, ap, ◌∙◌}
use Rattle.sloth_base.specs.declared.config.Config.{Config}
use Rattle.sloth_base.specs.declared.config.AlarmDecl.{AlarmDecl}
use Rattle.run_costs.proofs.services.some_expires.Goals as goal

pub returns : goal.returns
returns c =
    let over = subst (λ (x : List AlarmDecl). length x ≤ c.loop-alarm.alarm) (c.items-alarm-end.ensures ∙ ap (λ (g : Config). g.alarms) c.config.ensures.is) c.loop-alarm-test.false in
    (λ e. cc, λ (a, lt, may, used). absurd (c.loop-alarm.invariant a (omega (arith, over, lt)) (may, used)))
