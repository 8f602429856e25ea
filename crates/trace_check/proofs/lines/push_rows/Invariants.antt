use Rattle.std.proofs.Common.{◌≡◌, ◌++◌, take}
use Rattle.std.specs.List.{flat_map}
use Rattle.trace_check.specs.ReasonLines.{row_line}
use Rattle.trace_check.proofs.lines.push_rows.Given as goal

abbrev pub invariant-loop-row : goal.invariant-loop-row
invariant-loop-row l = l.text.items ≡ l.fn.text.items ++ flat_map (row_line l.names) (take l.row-index l.rows)
