use Rattle.std.proofs.Common.{◌≡◌, ◌∷◌, sym, subst}
use Rattle.masked_code.specs.Kernel.{masking}
use Rattle.service_gen.specs.ChainTask.{IsChainTaskCode}
use Rattle.service_gen.proofs.Chaining.{body, chains}
use Rattle.service_gen.proofs.task_block.chain_task.Goals as goal

pub returns : goal.returns
returns c =
    let e : c.leave.new.code.items ≡ masking ∷ body c.args.task =
    rw (c.in_ok-leave.ensures, c.in_ok-raise.ensures, c.in_ok-end.ensures, c.in_ok-go_back.ensures, c.in_ok-put.ensures, c.bne.ensures, c.past.ensures, c.addi.ensures, c.in_ok-look.ensures, c.in_ok-ask.ensures, c.in_ok-open.ensures, c.new-code.ensures.items)
    in
    subst (IsChainTaskCode c.args.task) (sym e) (chains c.args.task)
