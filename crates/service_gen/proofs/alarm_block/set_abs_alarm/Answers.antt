use Rattle.std.proofs.Common.{◌≡◌, ◌∷◌, sym, subst}
use Rattle.masked_code.specs.Kernel.{masking}
use Rattle.service_gen.specs.SetAlarm.{IsSetAbsAlarmCode}
use Rattle.service_gen.proofs.SettingAlarms.{abs_body, sets_absolute}
use Rattle.service_gen.proofs.alarm_block.set_abs_alarm.Goals as goal

pub returns : goal.returns
returns c =
    let a = c.args in
    let h = c.requires in
    let e : c.refuse.new.code.items ≡ masking ∷ abs_body a.alarm a.counter a.max a.least =
    rw (c.in_ok-refuse.ensures, c.in_ok-set.ensures, c.in_ok-find_ticks.ensures, c.in_ok-ask_value.ensures, c.in_ok-ask_cycle.ensures.added, c.in_ok-ask_unused.ensures, c.in_ok-open.ensures, c.new-code.ensures.items)
    in
    let w = c.ask_cycle.ensures.fits in
    subst (IsSetAbsAlarmCode a.alarm a.counter a.max a.least) (sym e) (sets_absolute a.alarm a.counter a.max a.least h.2 w.1)
