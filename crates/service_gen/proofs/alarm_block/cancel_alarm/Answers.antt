use Rattle.std.proofs.Common.{◌≡◌, ◌∷◌, sym, subst}
use Rattle.masked_code.specs.Kernel.{masking}
use Rattle.service_gen.specs.CancelAlarm.{IsCancelAlarmCode}
use Rattle.service_gen.proofs.Using.{cancel_body, cancels}
use Rattle.service_gen.proofs.alarm_block.cancel_alarm.Goals as goal

pub returns : goal.returns
returns c =
    let e : c.go_back.new.code.items ≡ masking ∷ cancel_body c.args.alarm =
    rw (c.in_ok-go_back.ensures, c.in_ok-cancel.ensures, c.in_ok-ask_used.ensures, c.in_ok-open.ensures, c.new-code.ensures.items)
    in
    subst (IsCancelAlarmCode c.args.alarm) (sym e) (cancels c.args.alarm)
