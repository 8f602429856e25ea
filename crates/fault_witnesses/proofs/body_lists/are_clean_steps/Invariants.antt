use Rattle.std.proofs.Common.{ℕ, ◌+◌, ◌<◌}
use Rattle.fault_witnesses.specs.CleanWays.{IsCleanStep, way_item}
use Rattle.fault_witnesses.proofs.body_lists.are_clean_steps.Given as goal

abbrev pub invariant-loop-number : goal.invariant-loop-number
invariant-loop-number l = (n : ℕ) → n + 1 < l.number → IsCleanStep l.func (way_item l.way n) (way_item l.way (n + 1))
