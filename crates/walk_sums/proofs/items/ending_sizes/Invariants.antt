use Rattle.std.proofs.Common.{◌≡◌, ℕ, ◌<◌, length, get_or, cond, false}
use Rattle.sloth_base.specs.Named.{item_of}
use Rattle.walk_sums.specs.Computed.{ending_size}
use Rattle.walk_sums.proofs.items.ending_sizes.Given as goal

abbrev pub invariant-loop-number : goal.invariant-loop-number
invariant-loop-number l = record {
  count : length l.sizes.items ≡ l.number;
  exact : (i : ℕ) → i < l.number → get_or l.sizes.items i 0 ≡ cond (get_or l.alive i false) (ending_size l.whole (get_or l.weights i 0) (item_of l.func i).op) 0;
}
