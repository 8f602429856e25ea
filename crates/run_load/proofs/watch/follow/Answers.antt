use Rattle.std.proofs.Common.{◌∙◌, ap, sym}
use Rattle.osek_machine.specs.Steps.{Machine}
use Rattle.run_counts.proofs.Staged.{behind_is}
use Rattle.run_load.proofs.Watching.{stays}
use Rattle.run_load.proofs.watch.follow.Goals as goal

pub returns-in-Ok-clause-system : goal.returns-in-Ok-clause-system
returns-in-Ok-clause-system c =
    let m : Machine = c.args.osek.now in
    sym (behind_is m.config m.app c.args.event.now m.system c.step.new.self.system c.in-Ok.ensures.next)

pub returns-in-Err-clause-system : goal.returns-in-Err-clause-system
returns-in-Err-clause-system c =
    let m : Machine = c.args.osek.now in
    ap (λ (x : Machine). x.system) c.in-Err.ensures.same ∙ stays m.config m.app c.args.event.now m.system c.in-Err.ensures.none
