use Rattle.shares_text.proofs.Listing.{below, Fronts}
use Rattle.shares_text.proofs.keepers.keepers.Given as goal

abbrev pub invariant-loop-task : goal.invariant-loop-task
invariant-loop-task l = Fronts l.tasks l.ceilings l.users l.uses l.above l.list.items

abbrev pub decreases-loop-task : goal.decreases-loop-task
decreases-loop-task l = below l.tasks l.above
