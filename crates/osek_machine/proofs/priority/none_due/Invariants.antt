use Rattle.std.proofs.Common.{◌≡◌, true, not}
use Rattle.osek_scheduler.specs.Next.{all_below}
use Rattle.osek_scheduler.specs.State.{counter}
use Rattle.osek_machine.proofs.priority.none_due.Given as goal

abbrev pub invariant-loop-d : goal.invariant-loop-d
invariant-loop-d l = all_below l.d (λ d. not (counter l.store d).due) ≡ true
