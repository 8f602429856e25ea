use Rattle.std.proofs.Common.{◌≡◌, ◌+◌, ◌++◌, drop}
use Rattle.map_text.specs.LineRows.{item_rows}
use Rattle.map_text.proofs.line_rows.push_items.Given as goal

abbrev pub invariant-loop-k : goal.invariant-loop-k
invariant-loop-k l =
    l.to.items ++ item_rows l.spots l.end (l.n + l.k) (drop l.k l.all) ≡ l.fn.to.items ++ item_rows l.spots l.end l.n l.all
