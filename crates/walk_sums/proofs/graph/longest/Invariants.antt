use Rattle.std.proofs.Common.{◌≡◌, ℕ, true, length, get_or, take}
use Rattle.code_rules.specs.Code.{is_in}
use Rattle.walk_sums.specs.Trails.{AreSizesInLimit, IsLongest}
use Rattle.walk_sums.proofs.graph.longest.Given as goal

abbrev pub invariant-loop-node : goal.invariant-loop-node
invariant-loop-node l = record {
  count : length l.table.items ≡ length l.ways;
  small : AreSizesInLimit l.table.items;
  known : (j : ℕ) → is_in j (take l.node-index l.order) ≡ true → IsLongest l.ways l.steps l.ends j (get_or l.table.items j 0);
}
