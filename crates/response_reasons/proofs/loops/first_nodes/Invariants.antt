use Rattle.std.proofs.Common.{◌≡◌, ℕ, ◌<◌, length}
use Rattle.walk_sums.specs.Graph.{ways_of}
use Rattle.response_reasons.specs.Doubled.{first_ways}
use Rattle.response_reasons.proofs.loops.first_nodes.Given as goal

abbrev pub invariant-loop-node : goal.invariant-loop-node
invariant-loop-node l = record { count : length l.twice.items ≡ l.node; first : (i : ℕ) → i < l.node → ways_of l.twice.items i ≡ first_ways l.ways l.steps i }
