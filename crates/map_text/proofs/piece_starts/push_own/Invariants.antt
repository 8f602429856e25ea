use Rattle.std.proofs.Common.{◌≡◌, ◌++◌}
use Rattle.map_text.specs.Rows.{own_rows}
use Rattle.map_text.proofs.piece_starts.push_own.Given as goal

abbrev pub invariant-loop-task : goal.invariant-loop-task
invariant-loop-task l = l.rows.items ≡ l.fn.rows.items ++ own_rows l.config l.map l.task
