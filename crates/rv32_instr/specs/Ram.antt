-- Half words and words in a list of bytes, low byte first. An offset is an address less 0x80000000.
use Rattle.std.specs.Prelude.{ℕ, ◌+◌, ◌*◌, ◌/◌, ◌%◌, List, [], ◌∷◌, slice_index, slice_set}

-- the half word at an offset
unfoldable pub half_at : List ℕ → ℕ → ℕ
half_at ram offset = slice_index ram offset + slice_index ram (offset + 1) * 256

-- the word at an offset
unfoldable pub word_at : List ℕ → ℕ → ℕ
word_at ram offset =
    slice_index ram offset + slice_index ram (offset + 1) * 256 + slice_index ram (offset + 2) * 65536
    + slice_index ram (offset + 3) * 16777216

-- the bytes with the low byte of a value written at an offset
abbrev pub with_byte : List ℕ → ℕ → ℕ → List ℕ
with_byte ram offset value = slice_set ram offset (value % 256)

-- the same for its low half word, and for a word
unfoldable pub with_half : List ℕ → ℕ → ℕ → List ℕ
with_half ram offset value = with_byte (with_byte ram offset value) (offset + 1) (value / 256)

-- the bytes with a word written at an offset
unfoldable pub with_word : List ℕ → ℕ → ℕ → List ℕ
with_word ram offset value =
    with_byte (with_byte (with_byte (with_byte ram offset value) (offset + 1) (value / 256)) (offset + 2) (value / 65536)) (offset + 3) (value / 16777216)

-- the bytes with these words written one after the other
abbrev pub with_words : List ℕ → ℕ → List ℕ → List ℕ
with_words ram offset [] = ram
with_words ram offset (word ∷ words) = with_words (with_word ram offset word) (offset + 4) words
