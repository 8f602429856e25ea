use Rattle.std.proofs.Common.{◌≡◌, ◌+◌, ◌++◌, drop, length}
use Rattle.symbol_image.specs.Entries.{all_body_bytes}
use Rattle.map_text.specs.LineRows.{item_count}
use Rattle.symbol_image.proofs.bodies.put_bodies.Given as goal

abbrev pub invariant-loop-func : goal.invariant-loop-func
invariant-loop-func l =
    (l.info.items ++ all_body_bytes l.types l.places l.end (length l.info.items) l.number (drop l.func-index l.funcs)
    ≡ l.fn.info.items ++ all_body_bytes l.types l.places l.end (length l.fn.info.items) 0 l.funcs)
    × (l.number + item_count (drop l.func-index l.funcs) ≡ item_count l.funcs)
