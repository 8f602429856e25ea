use Rattle.std.proofs.Common.{◌∙◌, length, ap, sym, arith}
use Rattle.std.specs.Prelude.{not, ◌||◌, leb}
use Rattle.osek_scheduler.specs.Priority.{is_active, rank}
use Rattle.osek_scheduler.specs.State.{task}
use Rattle.osek_machine.proofs.Below.{not_all}
use Rattle.run_load.proofs.running.is_greatest.Goals as goal

pub returns-then-not-is_below : goal.returns-then-not-is_below
returns-then-not-is_below c =
    let config = c.args.config.now in
    let store = c.args.store.now in
    sym (not_all (length config.tasks) c.loop-u.u (λ u. not (is_active (task store u).state) || leb (rank config store u) (rank config store c.args.t))
    (omega (arith, c.loop-u-test.true, ap length c.items-u-end.ensures)) (sym c.is_below.ensures ∙ c.if-not-is_below.true))
