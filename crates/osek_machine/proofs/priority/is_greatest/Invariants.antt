use Rattle.std.proofs.Common.{◌≡◌, true}
use Rattle.osek_scheduler.specs.Next.{all_below, yields_to}
use Rattle.osek_machine.proofs.priority.is_greatest.Given as goal

abbrev pub invariant-loop-u : goal.invariant-loop-u
invariant-loop-u l = all_below l.u (yields_to l.config l.store l.others l.t) ≡ true
