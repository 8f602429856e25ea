use Rattle.std.proofs.Common.{ℕ, ◌<◌}
use Rattle.run_costs.specs.Coming.{MayActivate, IsUsed, marked}
use Rattle.run_costs.proofs.services.some_expires.Given as goal

abbrev pub invariant-loop-alarm : goal.invariant-loop-alarm
invariant-loop-alarm l = (a : ℕ) → a < l.alarm → ¬ (MayActivate l.walks.config l.makers.load.now a l.named × IsUsed l.walks.config l.walks.app (marked l.marks) a)
