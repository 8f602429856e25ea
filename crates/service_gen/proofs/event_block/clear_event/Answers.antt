use Rattle.std.proofs.Common.{◌≡◌, ◌∷◌, sym, subst}
use Rattle.masked_code.specs.Kernel.{masking}
use Rattle.service_gen.specs.ClearEvent.{IsClearEventCode}
use Rattle.service_gen.proofs.Clearing.{body, clears}
use Rattle.service_gen.proofs.event_block.clear_event.Goals as goal

pub returns : goal.returns
returns c =
    let e : c.go_back.new.code.items ≡ masking ∷ body =
    rw (c.in_ok-go_back.ensures, c.in_ok-clear_own.ensures, c.in_ok-find_own.ensures, c.in_ok-open.ensures, c.new-code.ensures.items)
    in
    subst IsClearEventCode (sym e) clears
