use Rattle.std.proofs.Common.{◌∙◌, length, ap, sym, arith}
use Rattle.osek_scheduler.specs.Next.{yields_to}
use Rattle.osek_machine.proofs.Below.{not_all}
use Rattle.osek_machine.proofs.priority.is_greatest.Goals as goal

pub returns-then-not-yields : goal.returns-then-not-yields
returns-then-not-yields c =
    sym (not_all (length c.args.config.now.tasks) c.loop-u.u (yields_to c.args.config.now c.args.store.now c.args.others.now c.args.t) (omega (arith, c.loop-u-test.true, ap length c.items-u-end.ensures))
    (sym c.yields.ensures ∙ c.if-not-yields.true))
