-- Entries of `.debug_info` as bytes (DWARF 4, 7.5), each by its kind.
use Rattle.std.specs.Prelude.{ℕ, ◌≡◌, List, [], ◌∷◌, ◌++◌, length, map}
use Rattle.std.specs.List.{flat_map}
use Rattle.image_file.specs.Fields.{four_bytes}
use Rattle.symbol_image.specs.Fields.{text_bytes, unsigned_leb}
use Rattle.symbol_image.specs.Abbreviations.{Abbreviation, Attribute}
use Rattle.symbol_image.specs.Abbreviations as kinds

-- a value of an attribute, in its form
pub data Value : Type 0 where
  Text : List ℕ → Value
  Byte : ℕ → Value
  Word : ℕ → Value
  Address : ℕ → Value
  Reference : ℕ → Value
  Present : Value
  Location : List ℕ → Value
  Offset : ℕ → Value

-- the number of its form
abbrev pub form_of : Value → ℕ
form_of (Text text) = kinds.string
form_of (Byte n) = kinds.byte
form_of (Word n) = kinds.word
form_of (Address n) = kinds.address
form_of (Reference n) = kinds.reference
form_of Present = kinds.present
form_of (Location bytes) = kinds.location
form_of (Offset n) = kinds.section_offset

-- its bytes
abbrev pub value_bytes : Value → List ℕ
value_bytes (Text text) = text_bytes text
value_bytes (Byte n) = n ∷ []
value_bytes (Word n) = four_bytes n
value_bytes (Address n) = four_bytes n
value_bytes (Reference n) = four_bytes n
value_bytes Present = []
value_bytes (Location bytes) = unsigned_leb (length bytes) ++ bytes
value_bytes (Offset n) = four_bytes n

-- an entry of a kind with the values of its attributes, or the end of the entries below one
pub data DwarfEntry : Type 0 where
  Of : Abbreviation → List Value → DwarfEntry
  End : DwarfEntry

-- its bytes: the kind's code and the values, or a zero
abbrev pub entry_bytes : DwarfEntry → List ℕ
entry_bytes (Of kind values) = kind.code ∷ flat_map value_bytes values
entry_bytes End = 0 ∷ []

-- those of entries
abbrev pub entries_bytes : List DwarfEntry → List ℕ
entries_bytes entries = flat_map entry_bytes entries

-- the values have the forms that the kind asks for
abbrev pub HasForms : DwarfEntry → Type 0
HasForms (Of kind values) = map form_of values ≡ map (λ (a : Attribute). a.form) kind.attributes
HasForms End = Unit {0}
