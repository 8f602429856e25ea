use Rattle.std.proofs.Common.{◌≡◌, true, not}
use Rattle.osek_scheduler.specs.Next.{all_below, is_due}
use Rattle.osek_machine.proofs.priority.is_idle.Given as goal

abbrev pub invariant-loop-t : goal.invariant-loop-t
invariant-loop-t l = all_below l.t (λ t. not (is_due l.store t)) ≡ true
