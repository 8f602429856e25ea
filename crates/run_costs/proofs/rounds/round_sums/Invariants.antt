use Rattle.std.proofs.Common.{false, get_or}
use Rattle.sloth_base.specs.Named.{declaration}
use Rattle.run_costs.specs.Rounds.{AreRounds}
use Rattle.run_costs.specs.Tables.{no_sums}
use Rattle.run_costs.specs.CostsOf.{AreEach}
use Rattle.run_costs.proofs.rounds.round_sums.Given as goal

abbrev pub invariant-loop-task : goal.invariant-loop-task
invariant-loop-task l = AreEach l.task (no_sums) (λ t. AreRounds l.walks.app (get_or l.clean t false) (declaration l.walks.config t).extended t l.weights) l.sums.items
