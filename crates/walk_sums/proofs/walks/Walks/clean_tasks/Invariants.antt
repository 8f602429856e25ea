use Rattle.std.proofs.Common.{length}
use Rattle.walk_sums.specs.Clears.{AreClearing}
use Rattle.walk_sums.proofs.walks.Walks.clean_tasks.Given as goal

abbrev pub invariant-loop-bit : goal.invariant-loop-bit
invariant-loop-bit l = AreClearing l.self.app (length l.self.config.tasks) l.bit l.clean.items
