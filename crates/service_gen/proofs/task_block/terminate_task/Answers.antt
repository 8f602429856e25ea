use Rattle.std.proofs.Common.{◌≡◌, ◌∷◌, sym, subst}
use Rattle.masked_code.specs.Kernel.{masking}
use Rattle.service_gen.specs.TerminateTask.{IsTerminateTaskCode}
use Rattle.service_gen.proofs.TerminateTask.{body, terminates}
use Rattle.service_gen.proofs.task_block.terminate_task.Goals as goal

pub returns : goal.returns
returns c =
    let e : c.leave.new.code.items ≡ masking ∷ body =
    rw (c.in_ok-leave.ensures, c.in_ok-end.ensures, c.in_ok-open.ensures, c.new-code.ensures.items)
    in
    subst IsTerminateTaskCode (sym e) terminates
