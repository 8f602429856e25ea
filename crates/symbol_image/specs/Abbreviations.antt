-- The kinds of entries, `.debug_abbrev` (DWARF 4, 7.5.3).
use Rattle.std.specs.Prelude.{ℕ, Bool, true, false, cond, List, [], ◌∷◌, ◌++◌}
use Rattle.std.specs.List.{flat_map}

-- an attribute of a kind of entries, and the form of its value, by their numbers (7.5.4)
pub record Attribute : Type 0 where
  pub name : ℕ
  pub form : ℕ

-- a kind of entries: its code, its tag, whether entries of it have others below them, and their attributes in order
pub record Abbreviation : Type 0 where
  pub code : ℕ
  pub tag : ℕ
  pub children : Bool
  pub attributes : List Attribute

-- an attribute of this name and form
abbrev pub attribute : (name form : ℕ) → Attribute
attribute name form = record { name = name; form = form }

-- ---- forms

-- a text with a zero behind it (DW_FORM_string)
abbrev pub string : ℕ
string = 8

-- a number in one byte (DW_FORM_data1)
abbrev pub byte : ℕ
byte = 11

-- a number in four bytes (DW_FORM_data4)
abbrev pub word : ℕ
word = 6

-- an address (DW_FORM_addr)
abbrev pub address : ℕ
address = 1

-- the place of an entry in its unit (DW_FORM_ref4)
abbrev pub reference : ℕ
reference = 19

-- that it has the attribute, in no byte (DW_FORM_flag_present)
abbrev pub present : ℕ
present = 25

-- an expression behind its length (DW_FORM_exprloc)
abbrev pub location : ℕ
location = 24

-- a place in another section (DW_FORM_sec_offset)
abbrev pub section_offset : ℕ
section_offset = 23

-- ---- the table

-- a compilation unit: producer, language, name, directory, first address, address behind the last, place of its lines
abbrev pub unit_kind : Abbreviation
unit_kind = record {
  code = 1;
  tag = 17;
  children = true;
  attributes = attribute 37 string ∷ attribute 19 byte ∷ attribute 3 string ∷ attribute 27 string ∷ attribute 17 address ∷ attribute 18 address
      ∷ attribute 16 section_offset ∷ [];
}

-- a base type: name, encoding, bytes
abbrev pub base_type_kind : Abbreviation
base_type_kind = record { code = 2; tag = 36; children = false; attributes = attribute 3 string ∷ attribute 62 byte ∷ attribute 11 byte ∷ [] }

-- a type of arrays: the type of the elements
abbrev pub array_kind : Abbreviation
array_kind = record { code = 3; tag = 1; children = true; attributes = attribute 73 reference ∷ [] }

-- its index: type and greatest value
abbrev pub index_kind : Abbreviation
index_kind = record { code = 4; tag = 33; children = false; attributes = attribute 73 reference ∷ attribute 47 word ∷ [] }

-- a variable that all see: name, that they do, file and line, type, location
abbrev pub variable_kind : Abbreviation
variable_kind = record {
  code = 5;
  tag = 52;
  children = false;
  attributes = attribute 3 string ∷ attribute 63 present ∷ attribute 58 byte ∷ attribute 59 word ∷ attribute 73 reference ∷ attribute 2 location ∷ [];
}

-- what a body has: name, that all see it, file and line, first address, address behind the last
abbrev pub body_attributes : List Attribute
body_attributes =
    attribute 3 string ∷ attribute 63 present ∷ attribute 58 byte ∷ attribute 59 word ∷ attribute 17 address ∷ attribute 18 address ∷ []

-- a body with a frame or labels
abbrev pub body_kind : Abbreviation
body_kind = record { code = 6; tag = 46; children = true; attributes = body_attributes }

-- a frame: name, type, location
abbrev pub frame_kind : Abbreviation
frame_kind = record { code = 7; tag = 52; children = false; attributes = attribute 3 string ∷ attribute 73 reference ∷ attribute 2 location ∷ [] }

-- a label: name, file and line, address
abbrev pub label_kind : Abbreviation
label_kind = record {
  code = 8;
  tag = 10;
  children = false;
  attributes = attribute 3 string ∷ attribute 58 byte ∷ attribute 59 word ∷ attribute 17 address ∷ [];
}

-- a body without frame and labels
abbrev pub plain_body_kind : Abbreviation
plain_body_kind = record { code = 9; tag = 46; children = false; attributes = body_attributes }

-- all kinds, in the order of their codes
abbrev pub abbreviations : List Abbreviation
abbreviations =
    unit_kind ∷ base_type_kind ∷ array_kind ∷ index_kind ∷ variable_kind ∷ body_kind ∷ frame_kind ∷ label_kind ∷ plain_body_kind ∷ []

-- ---- bytes

-- an attribute's
abbrev pub attribute_bytes : Attribute → List ℕ
attribute_bytes a = a.name ∷ a.form ∷ []

-- a kind's: code, tag, whether it has children, attributes, and two zeros
abbrev pub abbreviation_bytes : Abbreviation → List ℕ
abbreviation_bytes a = a.code ∷ a.tag ∷ cond a.children 1 0 ∷ (flat_map attribute_bytes a.attributes ++ 0 ∷ 0 ∷ [])

-- the section: all kinds, and a zero
unfoldable pub abbreviation_section : List ℕ
abbreviation_section = flat_map abbreviation_bytes abbreviations ++ 0 ∷ []
