use Rattle.std.proofs.Common.{◌≡◌, ℕ, ◌<◌, []}
use Rattle.walk_sums.specs.Graph.{HasMark, IsSearching}
use Rattle.walk_sums.proofs.graph.search.Given as goal

abbrev pub invariant-loop-node : goal.invariant-loop-node
invariant-loop-node l = record {
  searching : IsSearching l.ways l.seen l.done l.stack.items l.order.items;
  none : l.stack.items ≡ [];
  seen : (i : ℕ) → i < l.node → HasMark l.seen i;
}
