use Rattle.walk_sums.specs.Loops.{AreAttained, slack}
use Rattle.walk_sums.proofs.paths.settled.Given as goal

abbrev pub invariant-loop-table : goal.invariant-loop-table
invariant-loop-table l = AreAttained l.ways l.steps l.ends l.table.items

abbrev pub decreases-loop-table : goal.decreases-loop-table
decreases-loop-table l = slack l.table.items
