use Rattle.std.proofs.Common.{◌≡◌, ℕ, ◌<◌, false, get_or}
use Rattle.run_costs.specs.RunRecord.{is_asked}
use Rattle.run_costs.proofs.sections.some_asked.Given as goal

abbrev pub invariant-loop-task : goal.invariant-loop-task
invariant-loop-task l = (k : ℕ) → k < l.task → is_asked l.walks.config l.h l.j k (get_or l.tops k 0) ≡ false
