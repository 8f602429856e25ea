use Rattle.std.proofs.Common.{◌≡◌, ℕ, ◌<◌, ◌≤◌, get_or}
use Rattle.call_graph.specs.Rows.{row_has, widened_row}
use Rattle.call_graph.proofs.rows.round.Given as goal

abbrev pub invariant-loop-own : goal.invariant-loop-own
invariant-loop-own l = record {
  done : (i j : ℕ) → i < l.own-index → row_has l.rows i j ≡ widened_row l.fn.rows l.k i j;
  rest : (i : ℕ) → l.own-index ≤ i → get_or l.rows i 0 ≡ get_or l.fn.rows i 0;
}
