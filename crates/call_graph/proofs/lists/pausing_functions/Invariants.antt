use Rattle.std.proofs.Common.{◌≡◌, ℕ, ◌<◌, false, length, get_or}
use Rattle.call_graph.specs.Reached.{pauses_by}
use Rattle.call_graph.proofs.lists.pausing_functions.Given as goal

abbrev pub invariant-loop-number : goal.invariant-loop-number
invariant-loop-number l = record {
  count : length l.list.items ≡ l.number;
  pauses : (f : ℕ) → f < l.number → get_or l.list.items f false ≡ pauses_by l.funcs f (get_or l.rows f 0);
}
