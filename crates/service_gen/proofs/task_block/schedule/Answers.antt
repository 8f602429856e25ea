use Rattle.std.proofs.Common.{◌≡◌, ◌∷◌, sym, subst}
use Rattle.masked_code.specs.Kernel.{masking}
use Rattle.service_gen.specs.Schedule.{IsScheduleCode}
use Rattle.service_gen.proofs.Yielding.{body, yields}
use Rattle.service_gen.proofs.task_block.schedule.Goals as goal

pub returns : goal.returns
returns c =
    let e : c.put-3.new.code.items ≡ masking ∷ body =
    rw (c.in_ok-put-3.ensures, c.csrrw-3.ensures, c.addi.ensures, c.mret-2.ensures, c.in_ok-put-2.ensures, c.csrrci.ensures, c.csrrw.ensures, c.csrrw-2.ensures, c.mret.ensures, c.in_ok-put.ensures, c.jal.ensures, c.past.ensures, c.in_ok-lower.ensures, c.in_ok-open.ensures, c.new-code.ensures.items)
    in
    subst IsScheduleCode (sym e) yields
