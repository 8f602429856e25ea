use Rattle.std.proofs.Common.{◌≡◌, ℕ, ◌<◌, length, get_or, not, false}
use Rattle.sloth_base.specs.Named.{item_of}
use Rattle.osek_blocking.specs.Walks.{chains_itself}
use Rattle.walk_sums.proofs.bodies.onward_items.Given as goal

abbrev pub invariant-loop-number : goal.invariant-loop-number
invariant-loop-number l = record {
  count : length l.marks.items ≡ l.number;
  exact : (i : ℕ) → i < l.number → get_or l.marks.items i false ≡ not (chains_itself l.func (item_of l.func i).op);
}
