use Rattle.std.proofs.Common.{◌≡◌, true}
use Rattle.std.specs.Prelude.{not, ◌&&◌}
use Rattle.osek_scheduler.specs.Next.{all_below, is_due}
use Rattle.response_laws.specs.Sums.{is_over}
use Rattle.run_load.proofs.running.is_idle_over.Given as goal

abbrev pub invariant-loop-t : goal.invariant-loop-t
invariant-loop-t l = all_below l.t (λ t. not (is_over l.config l.h t && is_due l.store t)) ≡ true
