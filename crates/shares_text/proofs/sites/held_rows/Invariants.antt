use Rattle.std.proofs.Common.{◌≡◌, ℕ, ◌<◌, length, get_or}
use Rattle.code_rules.specs.Code.{held_list_at, held_list_fallen_into}
use Rattle.shares_text.specs.Sites.{no_held, IsHeld}
use Rattle.shares_text.proofs.sites.held_rows.Given as goal

abbrev pub invariant-loop-number : goal.invariant-loop-number
invariant-loop-number l = record {
  count : length l.rows.items ≡ l.number;
  held : l.held.items ≡ held_list_fallen_into l.func l.number;
  each : (i : ℕ) → i < l.number → IsHeld l.config (held_list_at l.func i) (get_or l.rows.items i no_held);
}
