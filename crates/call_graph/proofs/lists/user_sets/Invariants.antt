use Rattle.std.proofs.Common.{◌≡◌, ℕ, ◌<◌, length, get_or}
use Rattle.call_graph.specs.Bits.{is_member}
use Rattle.call_graph.specs.Reached.{used_by}
use Rattle.call_graph.proofs.lists.user_sets.Given as goal

abbrev pub invariant-loop-number : goal.invariant-loop-number
invariant-loop-number l = record {
  count : length l.list.items ≡ l.number;
  sets : (f t : ℕ) → f < l.number → is_member (get_or l.list.items f 0) t ≡ used_by l.funcs l.rows f t;
}
