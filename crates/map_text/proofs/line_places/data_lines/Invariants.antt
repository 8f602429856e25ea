use Rattle.std.proofs.Common.{◌≡◌, ◌+◌, ◌++◌, drop}
use Rattle.map_text.specs.DataLines.{data_lines}
use Rattle.map_text.proofs.line_places.data_lines.Given as goal

abbrev pub invariant-loop-n : goal.invariant-loop-n
invariant-loop-n l = l.found.items ++ data_lines (l.n + 1) (drop l.n l.lines) ≡ data_lines 1 l.lines
