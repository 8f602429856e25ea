use Rattle.std.proofs.Common.{◌≡◌, ◌∷◌, sym, subst}
use Rattle.masked_code.specs.Kernel.{masking}
use Rattle.service_gen.specs.GetAlarm.{IsGetAlarmCode}
use Rattle.service_gen.proofs.Using.{tell_body, tells}
use Rattle.service_gen.proofs.alarm_block.get_alarm.Goals as goal

pub returns : goal.returns
returns c =
    let e : c.go_back.new.code.items ≡ masking ∷ tell_body c.args.alarm =
    rw (c.in_ok-go_back.ensures, c.in_ok-tell_ticks.ensures, c.in_ok-ask_used.ensures, c.in_ok-open.ensures, c.new-code.ensures.items)
    in
    subst (IsGetAlarmCode c.args.alarm) (sym e) (tells c.args.alarm)
