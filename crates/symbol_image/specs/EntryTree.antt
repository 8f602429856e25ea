-- What reading `.debug_info` by `.debug_abbrev` gives.
use Rattle.std.specs.Prelude.{ℕ, ◌≡◌, ◌<◌, ◌+◌, ◌-◌, List, [], ◌∷◌, ◌++◌, length, drop, take, get_or, All}
use Rattle.sloth_base.specs.Named.{function, no_symbol}
use Rattle.sloth_base.specs.declared.app.App.{App}
use Rattle.sloth_base.specs.declared.app.Func.{Func}
use Rattle.sloth_base.specs.declared.app.Symbol.{Symbol}
use Rattle.sloth_base.specs.declared.limits.Places.{Places}
use Rattle.symbol_image.specs.Abbreviations.{Abbreviation, abbreviations, array_kind, index_kind}
use Rattle.symbol_image.specs.Entries.{base_type, body_entry, byte_name, info_section, data_shape, unit_header, variable_entry, word_name}
use Rattle.symbol_image.specs.EntryBytes.{End, DwarfEntry, HasForms, Of, Reference, Word, entries_bytes}
use Rattle.symbol_image.specs.Fields.{sized}
use Rattle.map_text.specs.LineRows.{item_address, item_count}
use Rattle.symbol_image.specs.declared.bodies.Shape.{Shape}
use Rattle.symbol_image.specs.declared.bodies.Shape.TheVariants as shape

-- an entry's kind is one of a table
abbrev pub HasKindIn : List Abbreviation → DwarfEntry → Type 0
HasKindIn kinds (Of kind values) = (k : ℕ) × (k < length kinds) × (drop k kinds ≡ kind ∷ drop (k + 1) kinds)
HasKindIn kinds End = Unit {0}

-- the section is that of one unit with these entries, each of a kind of the table and with values in its forms
pub record AreEntriesOf (kinds : List Abbreviation) (section : List ℕ) (entries : List DwarfEntry) : Type 0 where
  pub are : section ≡ sized (unit_header ++ entries_bytes entries)
  pub of_kinds : All (HasKindIn kinds) entries
  pub forms : All HasForms entries

-- an entry of these stands at a place of its unit: so long are the bytes in front of it
pub record IsEntryAt (entries : List DwarfEntry) (place : ℕ) (entry : DwarfEntry) : Type 0 where
  pub before : List DwarfEntry
  pub behind : List DwarfEntry
  pub are : entries ≡ before ++ entry ∷ behind
  pub is : place ≡ 11 + length (entries_bytes before)

-- ---- types

-- the type of words, or of bytes, stands there
abbrev pub IsWordType : List DwarfEntry → ℕ → Type 0
IsWordType entries place = IsEntryAt entries place (base_type word_name 4)

abbrev pub IsByteType : List DwarfEntry → ℕ → Type 0
IsByteType entries place = IsEntryAt entries place (base_type byte_name 1)

-- the type of arrays of so many of a type stands there, with its index behind it
pub record IsArrayType (entries : List DwarfEntry) (IsElement : ℕ → Type 0) (place count : ℕ) : Type 0 where
  pub element : ℕ
  pub index : ℕ
  pub is_element : IsElement element
  pub is_index : IsWordType entries index
  pub before : List DwarfEntry
  pub behind : List DwarfEntry
  pub are : entries ≡ before ++ Of array_kind (Reference element ∷ []) ∷ Of index_kind (Reference index ∷ Word (count - 1) ∷ []) ∷ End ∷ behind
  pub is : place ≡ 11 + length (entries_bytes before)

-- the type of a shape stands there
abbrev pub IsTypeOf : List DwarfEntry → (place : ℕ) → Shape → Type 0
IsTypeOf entries place shape.OneWord = IsWordType entries place
IsTypeOf entries place shape.OneByte = IsByteType entries place
IsTypeOf entries place (shape.Words count) = IsArrayType entries (IsWordType entries) place count
IsTypeOf entries place (shape.Bytes count) = IsArrayType entries (IsByteType entries) place count

-- ---- what is shown

-- a symbol of this line and address is among the entries, and its type is that of its bytes
pub record HasSymbolEntry (entries : List DwarfEntry) (symbol : Symbol) (line address : ℕ) : Type 0 where
  pub place : ℕ
  pub kind : ℕ
  pub is_type : IsTypeOf entries kind (data_shape (length symbol.bytes))
  pub stands : IsEntryAt entries place (variable_entry symbol line kind address)

-- a body is among the entries, with the addresses of its items and the line of its header
pub record HasBodyEntry (entries : List DwarfEntry) (places : Places) (end number : ℕ) (func : Func) : Type 0 where
  pub place : ℕ
  pub stands : IsEntryAt entries place (body_entry func (item_address places end number) (item_address places end (number + length func.items)))

-- a section shows task code: it reads as entries, among which is each symbol and each body
pub record HasCodeEntries (section : List ℕ) (app : App) (places : Places) (end : ℕ) (lines : List ℕ) : Type 0 where
  pub entries : List DwarfEntry
  pub read : AreEntriesOf abbreviations section entries
  pub symbols : (k : ℕ) → k < length app.symbols
      → HasSymbolEntry entries (get_or app.symbols k no_symbol) (get_or lines k 0) (get_or places.symbols k 0)
  pub bodies : (f : ℕ) → f < length app.funcs → HasBodyEntry entries places end (item_count (take f app.funcs)) (function app f)

-- so does the section of entries
abbrev pub InfoHasCode : Type 0
InfoHasCode = (source : List ℕ) (app : App) (places : Places) (end : ℕ) (lines : List ℕ)
    → HasCodeEntries (info_section source app places end lines) app places end lines
