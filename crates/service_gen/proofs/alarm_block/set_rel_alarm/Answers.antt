use Rattle.std.proofs.Common.{◌≡◌, ◌∷◌, sym, subst}
use Rattle.masked_code.specs.Kernel.{masking}
use Rattle.service_gen.specs.SetAlarm.{IsSetRelAlarmCode}
use Rattle.service_gen.proofs.SettingAlarms.{rel_body, sets_relative}
use Rattle.service_gen.proofs.alarm_block.set_rel_alarm.Goals as goal

pub returns : goal.returns
returns c =
    let a = c.args in
    let e : c.refuse.new.code.items ≡ masking ∷ rel_body a.alarm a.max a.least =
    rw (c.in_ok-refuse.ensures, c.in_ok-set.ensures, c.in_ok-ask_value.ensures, c.in_ok-put.ensures, c.beq.ensures, c.past.ensures, c.in_ok-ask_cycle.ensures.added, c.in_ok-ask_unused.ensures, c.in_ok-open.ensures, c.new-code.ensures.items)
    in
    let w = c.ask_cycle.ensures.fits in
    subst (IsSetRelAlarmCode a.alarm a.max a.least) (sym e) (sets_relative a.alarm a.max a.least w.0 w.1)
