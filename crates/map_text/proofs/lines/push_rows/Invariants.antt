use Rattle.std.proofs.Common.{◌≡◌, ◌++◌, take}
use Rattle.std.specs.List.{flat_map}
use Rattle.map_text.specs.MapText.{row_line}
use Rattle.map_text.proofs.lines.push_rows.Given as goal

abbrev pub invariant-loop-row : goal.invariant-loop-row
invariant-loop-row l = l.to.items ≡ l.fn.to.items ++ flat_map (row_line l.config l.app) (take l.row-index l.all)
