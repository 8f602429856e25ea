use Rattle.std.proofs.Common.{◌≡◌, ◌+◌, ◌++◌, drop}
use Rattle.symbol_image.specs.BodyFrames.{items_rules}
use Rattle.map_text.specs.LineRows.{item_address}
use Rattle.symbol_image.proofs.body_frames.put_items.Given as goal

abbrev pub invariant-loop-k : goal.invariant-loop-k
invariant-loop-k l =
    l.rules.items ++ items_rules l.app l.places l.code_end l.own l.end l.at (l.number + l.k) (drop l.k l.items)
    ≡ l.fn.rules.items ++ items_rules l.app l.places l.code_end l.own l.end (item_address l.places l.code_end l.number) l.number l.items
