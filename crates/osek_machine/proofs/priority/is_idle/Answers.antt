use Rattle.std.proofs.Common.{◌∙◌, length, sym, ap, arith}
use Rattle.std.specs.Prelude.{not}
use Rattle.osek_scheduler.specs.Next.{is_due}
use Rattle.osek_machine.proofs.Below.{not_all}
use Rattle.osek_machine.proofs.priority.is_idle.Goals as goal

pub returns-then-is_due : goal.returns-then-is_due
returns-then-is_due c =
    let store = c.args.store.now in
    sym (not_all (length c.args.config.now.tasks) c.loop-t.t (λ t. not (is_due store t)) (omega (arith, c.loop-t-test.true, ap length c.items-t-end.ensures))
    (ap not (sym c.is_due.ensures ∙ c.if-is_due.true)))
