use Rattle.std.proofs.Common.{◌≡◌, ◌+◌, ◌++◌, drop}
use Rattle.map_text.specs.LineRows.{item_count, line_rows}
use Rattle.map_text.proofs.line_rows.line_rows.Given as goal

abbrev pub invariant-loop-func : goal.invariant-loop-func
invariant-loop-func l =
    (l.rows.items ++ line_rows l.places l.end l.number (drop l.func-index l.funcs) ≡ line_rows l.places l.end 0 l.funcs)
    × (l.number + item_count (drop l.func-index l.funcs) ≡ item_count l.funcs)
