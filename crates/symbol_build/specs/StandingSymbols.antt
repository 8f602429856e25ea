-- What the readers of a file for debuggers find of its symbols.
use Rattle.std.specs.Prelude.{ℕ, ◌≡◌, ◌+◌, ◌<◌, ◌^◌, List, ◌∷◌, drop, length}
use Rattle.symbol_image.specs.FileParts.{FileParts}
use Rattle.symbol_image.specs.Layout.{Section}
use Rattle.symbol_image.specs.Reading.{ReadsAs}
use Rattle.symbol_image.specs.SymbolFile.{parts_borders, rows_of, symbol_file}
use Rattle.symbol_image.specs.SymbolTable.{section_number}
use Rattle.symbol_image.specs.Symbols.{all_symbols}
use Rattle.symbol_image.specs.declared.symbol.Symbol.{Symbol}
use Rattle.symbol_build.specs.StandingSections.{HasSection}

-- the file has a table of symbols (SHT_SYMTAB) and, where that one's link says, the names of them; there the symbol of this number reads so, in a
-- section
pub record HasSymbol (file : List ℕ) (number section : ℕ) (symbol : Symbol) : Type 0 where
  pub table_number : ℕ
  pub table : Section
  pub names : Section
  pub table_stands : HasSection file table_number table
  pub is_table : table.kind ≡ 2
  pub names_stand : HasSection file table.link names
  pub reads : ReadsAs table.contents names.contents number section symbol

-- each symbol of the parts is found so in their file, behind the one of zeros
abbrev pub SymbolsStand : Type 0
SymbolsStand = (parts : FileParts) (k : ℕ) (symbol : Symbol) → length (symbol_file parts) < 2 ^ 32
    → drop k (all_symbols parts.config parts.app (rows_of parts)) ≡ symbol ∷ drop (k + 1) (all_symbols parts.config parts.app (rows_of parts))
    → HasSymbol (symbol_file parts) (k + 1) (section_number (parts_borders parts) symbol.address) symbol
