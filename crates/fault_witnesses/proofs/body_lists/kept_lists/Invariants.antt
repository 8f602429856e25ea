use Rattle.std.proofs.Common.{◌≡◌, ℕ, ◌<◌, length, get_or}
use Rattle.code_rules.specs.Code.{held_list_fallen_into}
use Rattle.fault_witnesses.specs.BodyLists.{no_list, IsKept}
use Rattle.fault_witnesses.proofs.body_lists.kept_lists.Given as goal

abbrev pub invariant-loop-number : goal.invariant-loop-number
invariant-loop-number l = record {
  count : length l.rows.items ≡ l.number;
  held : l.held.items ≡ held_list_fallen_into l.func l.number;
  each : (i : ℕ) → i < l.number → IsKept l.func i (get_or l.rows.items i no_list);
}
