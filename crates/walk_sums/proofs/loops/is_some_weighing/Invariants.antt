use Rattle.std.proofs.Common.{ℕ, ◌<◌}
use Rattle.walk_sums.specs.Loops.{IsWeighingLoop}
use Rattle.walk_sums.proofs.loops.is_some_weighing.Given as goal

abbrev pub invariant-loop-node : goal.invariant-loop-node
invariant-loop-node l = (i : ℕ) → i < l.node → ¬ (IsWeighingLoop l.ways l.steps i)
