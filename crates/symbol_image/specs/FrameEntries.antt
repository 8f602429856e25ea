-- The entries of `.debug_frame` (DWARF 4, 6.4.1).
use Rattle.std.specs.Prelude.{ℕ, ◌%◌, ◌-◌, Bool, cond, List, [], ◌∷◌, ◌++◌, length, take}
use Rattle.image_file.specs.Fields.{four_bytes}
use Rattle.symbol_image.specs.Fields.{sized, unsigned_leb}

-- zeros behind bytes, up to a multiple of 4: they are instructions that do nothing (DW_CFA_nop)
abbrev pub padded : List ℕ → List ℕ
padded bytes = bytes ++ take ((4 - length bytes % 4) % 4) (0 ∷ 0 ∷ 0 ∷ [])

-- that a register's value is unknown (DW_CFA_undefined)
abbrev pub is_unknown : (column : ℕ) → List ℕ
is_unknown column = 7 ∷ unsigned_leb column

-- What entries of frames have in common: version 3, no augmentation, places in instructions of 4 bytes, offsets in words downwards (-4), and the
-- column of the address to go back to. The frame of the caller begins at x2 (DW_CFA_def_cfa), unless more is said; that column may be unknown.
abbrev pub common_bytes : (column : ℕ) → (unknown : Bool) → List ℕ
common_bytes column unknown =
    four_bytes 4294967295 ++ (3 ∷ 0 ∷ 4 ∷ 124 ∷ (unsigned_leb column ++ (12 ∷ 2 ∷ 0 ∷ cond unknown (is_unknown column) [])))

-- the entry of it, behind its length
abbrev pub common_entry : (column : ℕ) → (unknown : Bool) → List ℕ
common_entry column unknown = sized (padded (common_bytes column unknown))

-- the entry of so many bytes of code at an address, with its rules, by the common one at a place
abbrev pub frame_entry : (common address bytes : ℕ) → (rules : List ℕ) → List ℕ
frame_entry common address bytes rules = sized (padded (four_bytes common ++ (four_bytes address ++ (four_bytes bytes ++ rules))))
