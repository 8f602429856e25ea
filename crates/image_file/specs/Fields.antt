-- Fields of image files as bytes. Numbers are little-endian.
use Rattle.std.specs.Prelude.{ℕ, zero, suc, List, codes}
use Rattle.std.specs.Int.{to_le_bytes, w16, w32}

-- a number in four bytes, low byte first
unfoldable pub four_bytes : ℕ → List ℕ
four_bytes number = to_le_bytes w32 number

-- a number in two bytes, low byte first
unfoldable pub two_bytes : ℕ → List ℕ
two_bytes number = to_le_bytes w16 number

-- the magic bytes of an image with so many counters: a format of its own where there are some
abbrev pub magic_bytes : ℕ → List ℕ
magic_bytes zero = codes "SLOTHIM1"
magic_bytes (suc more) = codes "SLOTHIM2"
