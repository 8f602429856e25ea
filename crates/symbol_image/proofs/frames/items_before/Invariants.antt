use Rattle.std.proofs.Common.{◌≡◌, ◌+◌, drop, take}
use Rattle.map_text.specs.LineRows.{item_count}
use Rattle.symbol_image.proofs.frames.items_before.Given as goal

abbrev pub invariant-loop-func : goal.invariant-loop-func
invariant-loop-func l = l.count + item_count (drop l.func-index (take l.number l.funcs)) ≡ item_count (take l.number l.funcs)
