use Rattle.std.proofs.Common.{◌≡◌, ℕ, ◌<◌, length, get_or, false}
use Rattle.walk_sums.specs.Kinds.{is_going}
use Rattle.walk_sums.proofs.items.going_items.Given as goal

abbrev pub invariant-loop-number : goal.invariant-loop-number
invariant-loop-number l = record {
  count : length l.going.items ≡ l.number;
  exact : (i : ℕ) → i < l.number → get_or l.going.items i false ≡ is_going l.func l.kind l.alive i;
}
