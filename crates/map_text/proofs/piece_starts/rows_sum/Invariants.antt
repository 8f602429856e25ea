use Rattle.std.proofs.Common.{◌≡◌, ◌≤◌, ◌+◌, ◌*◌, drop}
use Rattle.map_text.specs.Rows.{rows_sum}
use Rattle.map_text.proofs.piece_starts.rows_sum.Given as goal

abbrev pub invariant-loop-i : goal.invariant-loop-i
invariant-loop-i l = (l.sum + rows_sum (drop l.i l.rows) ≡ rows_sum l.rows) × (l.sum ≤ l.i * 4294967296)
