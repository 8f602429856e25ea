use Rattle.std.proofs.Common.{◌∙◌, sym, ap, arith}
use Rattle.std.specs.Prelude.{not}
use Rattle.osek_scheduler.specs.declared.state.Counter.{Counter}
use Rattle.osek_scheduler.specs.State.{counter}
use Rattle.osek_machine.proofs.Below.{not_all}
use Rattle.osek_machine.proofs.priority.none_due.Goals as goal

pub returns-then-counter : goal.returns-then-counter
returns-then-counter c =
    let store = c.args.store.now in
    sym (not_all c.args.c c.loop-d.d (λ d. not (counter store d).due) (omega (arith, c.loop-d-test.true))
    (ap not (ap (λ (k : Counter). k.due) (sym c.counter.ensures) ∙ c.if-counter.true)))
