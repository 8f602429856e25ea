-- The entries of `.debug_info`: the unit, two types, each symbol, each body with its frame and labels.
use Rattle.std.specs.Prelude.{ℕ, zero, suc, ◌+◌, ◌-◌, ◌%◌, ◌/◌, ◌==◌, Bool, true, ltb, cond, List, [], ◌∷◌, ◌++◌, codes, length, map, filter, get_or, if◌then◌else◌}
use Rattle.std.specs.List.{list_any}
use Rattle.image_file.specs.Fields.{four_bytes, two_bytes}
use Rattle.sloth_base.specs.declared.app.App.{App}
use Rattle.sloth_base.specs.declared.app.Func.{Func}
use Rattle.sloth_base.specs.declared.app.Label.{Label}
use Rattle.sloth_base.specs.declared.app.Symbol.{Symbol}
use Rattle.sloth_base.specs.declared.limits.Places.{Places}
use Rattle.symbol_image.specs.Abbreviations.{array_kind, base_type_kind, body_kind, frame_kind, index_kind, label_kind, plain_body_kind, unit_kind, variable_kind}
use Rattle.symbol_image.specs.EntryBytes.{Address, Byte, End, DwarfEntry, Location, Of, Offset, Present, Reference, Text, Value, Word, entries_bytes}
use Rattle.symbol_image.specs.Fields.{sized}
use Rattle.map_text.specs.LineRows.{item_address}
use Rattle.symbol_image.specs.declared.bodies.Shape.{Shape}
use Rattle.symbol_image.specs.declared.bodies.Shape.TheVariants as shape
use Rattle.symbol_image.specs.declared.bodies.Types.{Types}

-- ---- the unit

-- the header of the unit behind its length: version, place of its kinds, bytes of an address (7.5.1.1)
abbrev pub unit_header : List ℕ
unit_header = two_bytes 4 ++ (four_bytes 0 ++ 4 ∷ [])

-- what is said of the unit: who made it, its language, the name of its source, its directory
abbrev pub unit_names : (source : List ℕ) → List Value
unit_names source = Text (codes "sloth") ∷ Byte 12 ∷ Text source ∷ Text (codes ".") ∷ []

-- from where to where its code goes, and where its lines stand
abbrev pub unit_places : (low high : ℕ) → List Value
unit_places low high = Address low ∷ Address high ∷ Offset 0 ∷ []

-- the unit: the code from its first item to the data. Its language is C99, since debuggers take two rows of one address for an empty prologue
-- where it is none of assembly; its directory is the one where the debugger is started.
abbrev pub unit_entry : (source : List ℕ) → (low high : ℕ) → DwarfEntry
unit_entry source low high =
    Of unit_kind (unit_names source ++ unit_places low high)

-- an unsigned base type (encoding 7)
abbrev pub base_type : (name : List ℕ) → (bytes : ℕ) → DwarfEntry
base_type name bytes = Of base_type_kind (Text name ∷ Byte 7 ∷ Byte bytes ∷ [])

-- the names of the two types, which no word of a source is
abbrev pub word_name : List ℕ
word_name = codes "unsigned int"

abbrev pub byte_name : List ℕ
byte_name = codes "unsigned char"

-- the place behind bytes of a unit: it counts from the unit's length on, which has four bytes
abbrev pub place_behind : List ℕ → ℕ
place_behind bytes = 4 + length bytes

-- what stands in front of the first type
abbrev pub unit_bytes : (source : List ℕ) → (low high : ℕ) → List ℕ
unit_bytes source low high = unit_header ++ entries_bytes (unit_entry source low high ∷ [])

-- where the two types stand: behind the unit's entry, one after the other
abbrev pub types_behind : List ℕ → Types
types_behind bytes = record {
  word = place_behind bytes;
  byte = place_behind bytes + length (entries_bytes (base_type word_name 4 ∷ []));
}

-- ---- data

-- what so many bytes of data are
abbrev pub data_shape : ℕ → Shape
data_shape size =
    if size == 4 then shape.OneWord else if size == 1 then shape.OneByte else if size % 4 == 0 then shape.Words (size / 4) else shape.Bytes size

-- the type of arrays of so many of a type
abbrev pub array_entries : Types → (element count : ℕ) → List DwarfEntry
array_entries types element count =
    Of array_kind (Reference element ∷ []) ∷ Of index_kind (Reference types.word ∷ Word (count - 1) ∷ []) ∷ End ∷ []

-- the type of a shape, where it is not one of the two
abbrev pub type_entries : Types → Shape → List DwarfEntry
type_entries types shape.OneWord = []
type_entries types shape.OneByte = []
type_entries types (shape.Words count) = array_entries types types.word count
type_entries types (shape.Bytes count) = array_entries types types.byte count

-- where the type of a shape stands whose own entries stand at a place
abbrev pub type_place : Types → Shape → (at : ℕ) → ℕ
type_place types shape.OneWord at = types.word
type_place types shape.OneByte at = types.byte
type_place types (shape.Words count) at = at
type_place types (shape.Bytes count) at = at

-- the expression of an address (DW_OP_addr)
abbrev pub at_address : ℕ → List ℕ
at_address address = 3 ∷ four_bytes address

-- a symbol of this line and address, whose type stands at a place
abbrev pub variable_entry : Symbol → (line kind address : ℕ) → DwarfEntry
variable_entry symbol line kind address =
    Of variable_kind (Text symbol.name ∷ Present ∷ Byte 1 ∷ Word line ∷ Reference kind ∷ Location (at_address address) ∷ [])

-- and with the entries of its type, which stand at a place
abbrev pub symbol_entries : Types → (at : ℕ) → Symbol → (line address : ℕ) → List DwarfEntry
symbol_entries types at symbol line address =
    type_entries types (data_shape (length symbol.bytes))
    ++ variable_entry symbol line (type_place types (data_shape (length symbol.bytes)) at) address ∷ []

-- those of symbols one after the other, the first of which has this number; its line and its address stand at its place in their lists
abbrev pub all_symbol_bytes : Types → (lines addresses : List ℕ) → (at number : ℕ) → List Symbol → List ℕ
all_symbol_bytes types lines addresses at number [] = []
all_symbol_bytes types lines addresses at number (symbol ∷ symbols) =
    entries_bytes (symbol_entries types at symbol (get_or lines number 0) (get_or addresses number 0))
    ++ all_symbol_bytes types lines addresses
    (at + length (entries_bytes (symbol_entries types at symbol (get_or lines number 0) (get_or addresses number 0)))) (number + 1) symbols

-- ---- bodies

-- a body's frame, whose type stands at a place: words at x2 (DW_OP_breg2 0)
abbrev pub frame_variable_entry : (at : ℕ) → DwarfEntry
frame_variable_entry at = Of frame_kind (Text (codes "frame") ∷ Reference at ∷ Location (114 ∷ 0 ∷ []) ∷ [])

-- it, if it has words
abbrev pub frame_entries : (at words : ℕ) → List DwarfEntry
frame_entries at zero = []
frame_entries at (suc words) = frame_variable_entry at ∷ []

-- the type of the words of a frame, if it has any
abbrev pub frame_type_entries : Types → (words : ℕ) → List DwarfEntry
frame_type_entries types zero = []
frame_type_entries types (suc words) = array_entries types types.word (suc words)

-- a label that stands before an item
abbrev pub stands_before : (items : ℕ) → Label → Bool
stands_before items label = ltb label.item items

-- the labels of a body that do
abbrev pub inner_labels : Func → List Label
inner_labels func = filter (stands_before (length func.items)) func.labels

-- a label of a body, the first item of which has this place
abbrev pub label_entry : Places → (end number : ℕ) → Label → DwarfEntry
label_entry places end number label =
    Of label_kind (Text label.name ∷ Byte 1 ∷ Word label.line ∷ Address (item_address places end (number + label.item)) ∷ [])

-- whether something stands below a body
abbrev pub has_below : Func → Bool
has_below func = if func.frame_words == 0 then list_any (stands_before (length func.items)) func.labels else true

-- the values of a body, from an address to another
abbrev pub body_entry : Func → (low high : ℕ) → DwarfEntry
body_entry func low high =
    Of (cond (has_below func) body_kind plain_body_kind)
    (Text func.name ∷ Present ∷ Byte 1 ∷ Word func.line ∷ Address low ∷ Address high ∷ [])

-- the end of what stands below it, if something does
abbrev pub end_entries : Bool → List DwarfEntry
end_entries below = cond below (End ∷ []) []

-- a body, whose entries stand at a place, and the first item of which has this place among all
abbrev pub body_entries : Types → Places → (end at number : ℕ) → Func → List DwarfEntry
body_entries types places end at number func =
    frame_type_entries types func.frame_words
    ++ (body_entry func (item_address places end number) (item_address places end (number + length func.items))
    ∷ (frame_entries at func.frame_words ++ (map (label_entry places end number) (inner_labels func) ++ end_entries (has_below func))))

-- those of bodies one after the other
abbrev pub all_body_bytes : Types → Places → (end at number : ℕ) → List Func → List ℕ
all_body_bytes types places end at number [] = []
all_body_bytes types places end at number (func ∷ funcs) =
    entries_bytes (body_entries types places end at number func)
    ++ all_body_bytes types places end (at + length (entries_bytes (body_entries types places end at number func))) (number + length func.items) funcs

-- ---- the section

-- the unit and its two types
abbrev pub front_bytes : (source : List ℕ) → (low high : ℕ) → List ℕ
front_bytes source low high =
    unit_bytes source low high ++ entries_bytes (base_type word_name 4 ∷ base_type byte_name 1 ∷ [])

-- what is placed behind the unit's header and the types: the symbols, and from there on the bodies
abbrev pub symbols_behind : (front : List ℕ) → Types → App → Places → (lines : List ℕ) → List ℕ
symbols_behind front types app places lines = front ++ all_symbol_bytes types lines places.symbols (place_behind front) 0 app.symbols

abbrev pub bodies_behind : (front : List ℕ) → Types → App → Places → (end : ℕ) → List ℕ
bodies_behind front types app places end = front ++ all_body_bytes types places end (place_behind front) 0 app.funcs

-- where the types of a unit stand
abbrev pub types_of : (source : List ℕ) → (low high : ℕ) → Types
types_of source low high = types_behind (unit_bytes source low high)

-- the section: with the end of the entries below the unit
unfoldable pub info_section : (source : List ℕ) → App → Places → (end : ℕ) → (lines : List ℕ) → List ℕ
info_section source app places end lines =
    sized (bodies_behind (symbols_behind (front_bytes source (item_address places end 0) end)
    (types_of source (item_address places end 0) end) app places lines) (types_of source (item_address places end 0) end) app places end ++ 0 ∷ [])
