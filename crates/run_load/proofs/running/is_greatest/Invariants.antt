use Rattle.std.proofs.Common.{◌≡◌, true}
use Rattle.std.specs.Prelude.{not, ◌||◌, leb}
use Rattle.osek_scheduler.specs.Next.{all_below}
use Rattle.osek_scheduler.specs.Priority.{is_active, rank}
use Rattle.osek_scheduler.specs.State.{task}
use Rattle.run_load.proofs.running.is_greatest.Given as goal

abbrev pub invariant-loop-u : goal.invariant-loop-u
invariant-loop-u l = all_below l.u (λ u. not (is_active (task l.store u).state) || leb (rank l.config l.store u) (rank l.config l.store l.t)) ≡ true
