use Rattle.std.proofs.Common.{◌≡◌, ◌∷◌, sym, subst}
use Rattle.masked_code.specs.Kernel.{masking}
use Rattle.service_gen.specs.SetEvent.{IsSetEventCode}
use Rattle.service_gen.proofs.SettingEvents.{body, sets}
use Rattle.service_gen.proofs.event_block.set_event.Goals as goal

pub returns : goal.returns
returns c =
    let e : c.go_back.new.code.items ≡ masking ∷ body c.args.task =
    rw (c.in_ok-go_back.ensures, c.in_ok-enable.ensures, c.in_ok-raise.ensures, c.in_ok-ask_awaited.ensures, c.in_ok-add_events.ensures, c.in_ok-refuse.ensures, c.in_ok-look.ensures, c.in_ok-open.ensures, c.new-code.ensures.items)
    in
    subst (IsSetEventCode c.args.task) (sym e) (sets c.args.task)
