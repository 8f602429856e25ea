use Rattle.std.proofs.Common.{◌≡◌, ◌++◌, drop, length}
use Rattle.std.specs.List.{flat_map}
use Rattle.symbol_image.specs.Fields.{text_bytes}
use Rattle.symbol_image.specs.SymbolTable.{name_table, symbol_table, table_from}
use Rattle.symbol_image.specs.declared.symbol.Symbol.{Symbol}
use Rattle.symbol_image.proofs.symbol.symbol_tables.Given as goal

abbrev pub invariant-loop-symbol : goal.invariant-loop-symbol
invariant-loop-symbol l =
    (l.table.items ++ table_from l.borders (length l.names.items) (drop l.symbol-index l.symbols) ≡ symbol_table l.borders l.symbols)
    × (l.names.items ++ flat_map (λ (symbol : Symbol). text_bytes symbol.name) (drop l.symbol-index l.symbols) ≡ name_table l.symbols)
