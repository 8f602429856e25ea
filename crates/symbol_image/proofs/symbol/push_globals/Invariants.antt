use Rattle.std.proofs.Common.{◌≡◌, ◌++◌, take}
use Rattle.std.specs.List.{flat_map}
use Rattle.symbol_image.specs.Symbols.{global_symbols}
use Rattle.symbol_image.proofs.symbol.push_globals.Given as goal

abbrev pub invariant-loop-row : goal.invariant-loop-row
invariant-loop-row l = l.all.items ≡ l.fn.all.items ++ flat_map (global_symbols l.app) (take l.row-index l.rows)
