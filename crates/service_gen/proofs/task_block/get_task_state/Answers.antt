use Rattle.std.proofs.Common.{◌≡◌, ◌∷◌, sym, subst}
use Rattle.masked_code.specs.Kernel.{masking}
use Rattle.service_gen.specs.GetTaskState.{IsGetTaskStateCode}
use Rattle.service_gen.proofs.Stating.{body, tells_state}
use Rattle.service_gen.proofs.task_block.get_task_state.Goals as goal

pub returns : goal.returns
returns c =
    let e : c.go_back-2.new.code.items ≡ masking ∷ body c.args.task =
    rw (c.in_ok-go_back-2.ensures, c.in_ok-tell_resting.ensures, c.in_ok-ask_waiting.ensures, c.in_ok-go_back.ensures, c.in_ok-tell_active.ensures, c.in_ok-ask_active.ensures, c.in_ok-open.ensures, c.new-code.ensures.items)
    in
    subst (IsGetTaskStateCode c.args.task) (sym e) (tells_state c.args.task)
