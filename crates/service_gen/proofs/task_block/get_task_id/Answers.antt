use Rattle.std.proofs.Common.{◌≡◌, ◌∷◌, sym, subst}
use Rattle.masked_code.specs.Kernel.{masking}
use Rattle.service_gen.specs.GetTaskID.{IsGetTaskIDCode}
use Rattle.service_gen.proofs.Telling.{body, tells}
use Rattle.service_gen.proofs.task_block.get_task_id.Goals as goal

pub returns : goal.returns
returns c =
    let e : c.go_back.new.code.items ≡ masking ∷ body =
    rw (c.in_ok-go_back.ensures, c.in_ok-put.ensures, c.lw.ensures, c.addi.ensures, c.addi-2.ensures, c.in_ok-open.ensures, c.new-code.ensures.items)
    in
    subst (IsGetTaskIDCode) (sym e) (tells)
