use Rattle.std.proofs.Common.{◌≡◌, ◌++◌, take}
use Rattle.std.specs.List.{flat_map}
use Rattle.symbol_image.specs.Symbols.{local_symbols}
use Rattle.symbol_image.proofs.symbol.push_locals.Given as goal

abbrev pub invariant-loop-row : goal.invariant-loop-row
invariant-loop-row l = l.to.items ≡ l.fn.to.items ++ flat_map (local_symbols l.config) (take l.row-index l.rows)
