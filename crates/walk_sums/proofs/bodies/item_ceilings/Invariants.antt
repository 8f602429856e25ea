use Rattle.std.proofs.Common.{◌≡◌, ℕ, ◌<◌, length, get_or, map}
use Rattle.osek_scheduler.specs.Priority.{greatest, ceiling}
use Rattle.code_rules.specs.Code.{held_list_at, held_list_fallen_into}
use Rattle.walk_sums.proofs.bodies.item_ceilings.Given as goal

abbrev pub invariant-loop-number : goal.invariant-loop-number
invariant-loop-number l = record {
  count : length l.ceilings.items ≡ l.number;
  held : l.held.items ≡ held_list_fallen_into l.func l.number;
  exact : (i : ℕ) → i < l.number → get_or l.ceilings.items i 0 ≡ greatest (map (ceiling l.config) (held_list_at l.func i));
}
