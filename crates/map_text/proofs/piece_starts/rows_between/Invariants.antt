use Rattle.std.proofs.Common.{◌≡◌, ◌++◌, drop}
use Rattle.map_text.specs.PieceRows.{rows_between}
use Rattle.map_text.proofs.piece_starts.rows_between.Given as goal

abbrev pub invariant-loop-i : goal.invariant-loop-i
invariant-loop-i l = l.rows.items ++ rows_between (drop l.i l.starts) l.end ≡ rows_between l.starts l.end
