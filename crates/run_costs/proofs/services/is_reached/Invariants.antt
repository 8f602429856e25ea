use Rattle.std.proofs.Common.{◌≡◌, ◌&&◌, ℕ, ◌<◌, false, get_or, ltb}
use Rattle.run_costs.specs.Coming.{marked}
use Rattle.run_costs.proofs.services.is_reached.Given as goal

abbrev pub invariant-loop-task : goal.invariant-loop-task
invariant-loop-task l = (k : ℕ) → k < l.task → (marked l.marks k && ltb 0 (get_or l.tops k 0)) ≡ false
