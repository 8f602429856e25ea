use Rattle.std.proofs.Common.{◌≡◌, ◌∷◌, sym, subst}
use Rattle.masked_code.specs.Kernel.{masking}
use Rattle.service_gen.specs.ActivateTask.{IsActivateTaskCode}
use Rattle.service_gen.proofs.Activating.{body, activates}
use Rattle.service_gen.proofs.task_block.activate_task.Goals as goal

pub returns : goal.returns
returns c =
    let e : c.go_back.new.code.items ≡ masking ∷ body c.args.task =
    rw (c.in_ok-go_back.ensures, c.in_ok-raise.ensures, c.in_ok-put.ensures, c.xori.ensures, c.slli.ensures, c.in_ok-look.ensures, c.in_ok-open.ensures, c.new-code.ensures.items)
    in
    subst (IsActivateTaskCode c.args.task) (sym e) (activates c.args.task)
