use Rattle.std.proofs.Common.{◌≡◌, ◌++◌, drop}
use Rattle.map_text.specs.Totals.{filled_rows}
use Rattle.map_text.proofs.lines.filled_rows.Given as goal

abbrev pub invariant-loop-n : goal.invariant-loop-n
invariant-loop-n l = l.filled.items ++ filled_rows (drop l.n l.rows) ≡ filled_rows l.rows
