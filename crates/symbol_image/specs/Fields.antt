-- The fields of which debugging sections are made (DWARF 4, 7.5.4 and 7.6).
use Rattle.std.specs.Prelude.{ℕ, zero, suc, ◌+◌, ◌-◌, ◌%◌, ◌/◌, ltb, cond, List, [], ◌∷◌, ◌++◌, length}
use Rattle.image_file.specs.Fields.{four_bytes}

-- a text, and a zero behind it
abbrev pub text_bytes : List ℕ → List ℕ
text_bytes text = text ++ 0 ∷ []

-- A number in groups of seven bits, lowest first: all bytes but the last have bit 7, and the last is below a limit. It has so many groups before its last
-- one at most, which are enough for each number of 32 bits.
abbrev pub groups : (limit left number : ℕ) → List ℕ
groups limit zero number = number ∷ []
groups limit (suc left) number = cond (ltb number limit) (number ∷ []) ((number % 128 + 128) ∷ groups limit left (number / 128))

-- a number of 32 bits as an unsigned LEB128 (DWARF 4, 7.6)
unfoldable pub unsigned_leb : ℕ → List ℕ
unsigned_leb number = groups 128 4 number

-- the same of a signed one that is not negative: bit 6 of the last byte is its sign
unfoldable pub signed_leb : ℕ → List ℕ
signed_leb number = groups 64 4 number

-- a number of 35 bits in five groups
abbrev pub five_groups : ℕ → List ℕ
five_groups n = (n % 128 + 128) ∷ (n / 128 % 128 + 128) ∷ (n / 16384 % 128 + 128) ∷ (n / 2097152 % 128 + 128) ∷ n / 268435456 ∷ []

-- the number that is so much below zero, of 32 bits, as a signed LEB128 of 35 bits
unfoldable pub negative_leb : ℕ → List ℕ
negative_leb less = five_groups (34359738368 - less)

-- the length of these bytes in four bytes, and then they
abbrev pub sized : List ℕ → List ℕ
sized bytes = four_bytes (length bytes) ++ bytes
