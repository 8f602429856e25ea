-- What the readers of the table of symbols find in it.
use Rattle.std.specs.Prelude.{ℕ, ◌≡◌, ◌+◌, ◌*◌, ◌<◌, ◌^◌, List, [], ◌∷◌, ◌++◌, drop, take, length}
use Rattle.image_file.specs.Fields.{four_bytes, two_bytes}
use Rattle.symbol_image.specs.SymbolTable.{name_table, section_number, symbol_info, symbol_table}
use Rattle.map_text.specs.declared.piece_starts.Borders.{Borders}
use Rattle.symbol_image.specs.declared.symbol.Symbol.{Symbol}

-- the symbol of this number in a table of symbols reads so, with its name where the table of names has it, and in a section
pub record ReadsAs (table names : List ℕ) (number section : ℕ) (symbol : Symbol) : Type 0 where
  pub name : ℕ
  pub few : name < 2 ^ 32
  pub there : take 4 (drop (16 * number) table) ≡ four_bytes name
  pub address : take 4 (drop (16 * number + 4) table) ≡ four_bytes symbol.address
  pub size : take 4 (drop (16 * number + 8) table) ≡ four_bytes symbol.size
  pub kind : take 1 (drop (16 * number + 12) table) ≡ symbol_info symbol ∷ []
  pub in_section : take 2 (drop (16 * number + 14) table) ≡ two_bytes section
  pub name_is : take (length symbol.name + 1) (drop name names) ≡ symbol.name ++ 0 ∷ []

-- symbol k stands behind that of zeros, with its address, size, binding, kind and name, in the section that has its address
abbrev pub SymbolsReadBack : Type 0
SymbolsReadBack = (borders : Borders) (symbols : List Symbol) (k : ℕ) (symbol : Symbol) → length (name_table symbols) < 2 ^ 32
    → drop k symbols ≡ symbol ∷ drop (k + 1) symbols
    → ReadsAs (symbol_table borders symbols) (name_table symbols) (k + 1) (section_number borders symbol.address) symbol
