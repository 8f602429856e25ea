-- The table of symbols, and the table of their names (System V ABI, "Symbol Table" and "String Table").
use Rattle.std.specs.Prelude.{ℕ, ◌+◌, ◌*◌, ltb, cond, List, [], ◌∷◌, ◌++◌, length}
use Rattle.std.specs.List.{flat_map}
use Rattle.image_file.specs.Fields.{four_bytes, two_bytes}
use Rattle.sloth_base.specs.MemoryMap.{vectors_base}
use Rattle.symbol_image.specs.Fields.{text_bytes}
use Rattle.map_text.specs.declared.piece_starts.Borders.{Borders}
use Rattle.symbol_image.specs.declared.symbol.Binding.{Binding}
use Rattle.symbol_image.specs.declared.symbol.Binding.TheVariants as binding
use Rattle.symbol_image.specs.declared.symbol.Symbol.{Symbol}
use Rattle.symbol_image.specs.declared.symbol.SymbolKind.{SymbolKind}
use Rattle.symbol_image.specs.declared.symbol.SymbolKind.TheVariants as kind

-- the number of the section in which an address lies: words, code, data or stacks
abbrev pub section_number : Borders → (address : ℕ) → ℕ
section_number borders address =
    cond (ltb address vectors_base) 1 (cond (ltb address borders.code_end) 2 (cond (ltb address borders.end) 3 4))

-- the number of a binding (STB_LOCAL, STB_GLOBAL)
abbrev pub binding_number : Binding → ℕ
binding_number binding.Local = 0
binding_number binding.Global = 1

-- that of a kind (STT_OBJECT, STT_FUNC)
abbrev pub kind_number : SymbolKind → ℕ
kind_number kind.Object = 1
kind_number kind.Function = 2

-- binding and kind in one byte
abbrev pub symbol_info : Symbol → ℕ
symbol_info symbol = binding_number symbol.binding * 16 + kind_number symbol.kind

-- a symbol whose name stands at a place of the names, in 16 bytes
abbrev pub symbol_bytes : Borders → (name : ℕ) → Symbol → List ℕ
symbol_bytes borders name symbol =
    flat_map four_bytes (name ∷ symbol.address ∷ symbol.size ∷ []) ++ (symbol_info symbol ∷ 0 ∷ two_bytes (section_number borders symbol.address))

-- symbols one behind the other, the name of the first of which stands at a place
abbrev pub table_from : Borders → (name : ℕ) → List Symbol → List ℕ
table_from borders name [] = []
table_from borders name (symbol ∷ symbols) = symbol_bytes borders name symbol ++ table_from borders (name + length (text_bytes symbol.name)) symbols

-- sixteen zeros
abbrev pub no_symbol_bytes : List ℕ
no_symbol_bytes = 0 ∷ 0 ∷ 0 ∷ 0 ∷ 0 ∷ 0 ∷ 0 ∷ 0 ∷ 0 ∷ 0 ∷ 0 ∷ 0 ∷ 0 ∷ 0 ∷ 0 ∷ 0 ∷ []

-- the table: a symbol of zeros, then the symbols
unfoldable pub symbol_table : Borders → List Symbol → List ℕ
symbol_table borders symbols = no_symbol_bytes ++ table_from borders 1 symbols

-- the names: a zero, then each name with a zero behind it
unfoldable pub name_table : List Symbol → List ℕ
name_table symbols = 0 ∷ flat_map (λ (symbol : Symbol). text_bytes symbol.name) symbols
