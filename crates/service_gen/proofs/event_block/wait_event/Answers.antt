use Rattle.std.proofs.Common.{◌≡◌, ◌∷◌, sym, subst}
use Rattle.masked_code.specs.Kernel.{masking}
use Rattle.service_gen.specs.WaitEvent.{IsWaitEventCode}
use Rattle.service_gen.proofs.Waiting.{body, waits}
use Rattle.service_gen.proofs.event_block.wait_event.Goals as goal

pub returns : goal.returns
returns c =
    let e : c.leave.new.code.items ≡ masking ∷ body =
    rw (c.in_ok-leave.ensures, c.in_ok-put-4.ensures, c.add.ensures, c.sb.ensures, c.in_ok-hold_controller-2.ensures, c.in_ok-keep.ensures, c.in_ok-save_own.ensures, c.in_ok-put-3.ensures, c.sw.ensures, c.sw-2.ensures, c.in_ok-go_back.ensures, c.in_ok-put-2.ensures, c.addi.ensures, c.in_ok-hold_controller.ensures, c.in_ok-put.ensures, c.lw.ensures, c.and.ensures, c.beq.ensures, c.past.ensures, c.in_ok-find_own.ensures, c.in_ok-open.ensures, c.new-code.ensures.items)
    in
    subst IsWaitEventCode (sym e) waits
