use Rattle.std.proofs.Common.{◌≡◌, ℕ, ◌+◌, ◌<◌, length, get_or}
use Rattle.sloth_base.specs.Named.{item_of}
use Rattle.sim_induction.specs.Items.{length_of, going_counts, ending_counts}
use Rattle.run_counts.proofs.weights.body_counts.Given as goal

abbrev pub invariant-loop-item : goal.invariant-loop-item
invariant-loop-item l = record {
  going_count : length l.going.items ≡ l.item;
  ending_count : length l.ending.items ≡ l.item;
  going : (i : ℕ) → i < l.item → get_or l.going.items i 0 ≡ length_of l.lengths.bodies l.number i + going_counts (item_of l.func i).op;
  ending : (i : ℕ) → i < l.item → get_or l.ending.items i 0 ≡ length_of l.lengths.bodies l.number i + ending_counts l.func (item_of l.func i).op;
}
