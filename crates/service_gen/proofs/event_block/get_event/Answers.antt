use Rattle.std.proofs.Common.{◌≡◌, ◌∷◌, sym, subst}
use Rattle.masked_code.specs.Kernel.{masking}
use Rattle.service_gen.specs.GetEvent.{IsGetEventCode}
use Rattle.service_gen.proofs.Getting.{body, tells}
use Rattle.service_gen.proofs.event_block.get_event.Goals as goal

pub returns : goal.returns
returns c =
    let e : c.go_back.new.code.items ≡ masking ∷ body c.args.task =
    rw (c.in_ok-go_back.ensures, c.in_ok-tell_events.ensures, c.in_ok-look.ensures, c.in_ok-open.ensures, c.new-code.ensures.items)
    in
    subst (IsGetEventCode c.args.task) (sym e) (tells c.args.task)
