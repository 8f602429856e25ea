use Rattle.std.proofs.Common.{◌≡◌, ℕ, ◌<◌, length, get_or, false}
use Rattle.walk_sums.specs.Computed.{is_alive}
use Rattle.walk_sums.proofs.items.alive_items.Given as goal

abbrev pub invariant-loop-number : goal.invariant-loop-number
invariant-loop-number l = record {
  count : length l.alive.items ≡ l.number;
  exact : (i : ℕ) → i < l.number → get_or l.alive.items i false ≡ is_alive l.body l.level i;
}
