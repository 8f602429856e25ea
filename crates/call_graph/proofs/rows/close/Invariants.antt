use Rattle.std.proofs.Common.{◌≡◌, ℕ, ◌<◌, length}
use Rattle.call_graph.specs.Rows.{row_has}
use Rattle.call_graph.proofs.Closure.{via}
use Rattle.call_graph.proofs.rows.close.Given as goal

abbrev pub invariant-loop-k : goal.invariant-loop-k
invariant-loop-k l = (i j : ℕ) → i < length l.fn.rows → row_has l.rows i j ≡ via l.fn.rows l.k i j
