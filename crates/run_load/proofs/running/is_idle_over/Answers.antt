use Rattle.std.proofs.Common.{◌∙◌, length, ap, sym, arith}
use Rattle.std.specs.Prelude.{not, ◌&&◌}
use Rattle.osek_scheduler.specs.Next.{is_due}
use Rattle.osek_machine.proofs.Below.{not_all}
use Rattle.response_laws.specs.Sums.{is_over}
use Rattle.run_load.proofs.running.is_idle_over.Goals as goal

pub returns-then-is_due : goal.returns-then-is_due
returns-then-is_due c =
    let config = c.args.config.now in
    let store = c.args.store.now in
    let t = c.loop-t.t in
    sym (not_all (length config.tasks) t (λ t. not (is_over config c.args.h t && is_due store t)) (omega (arith, c.loop-t-test.true, ap length c.items-t-end.ensures))
    (ap not (ap (λ b. b && is_due store t) (sym c.is_over.ensures ∙ c.if-is_over.true) ∙ (sym c.is_due.ensures ∙ c.if-is_due.true))))
