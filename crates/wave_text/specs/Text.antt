-- The lines of a value change dump (IEEE 1364-2005, section 18).
use Rattle.std.specs.Prelude.{ℕ, ◌+◌, ◌/◌, ◌%◌, List, [], ◌∷◌, ◌++◌, codes, decimal, Option, Some, None}
use Rattle.std.specs.List.{flat_map}
use Rattle.wave_text.specs.declared.signals.Width.{Width}
use Rattle.wave_text.specs.declared.signals.Width.TheVariants as width
use Rattle.wave_text.specs.Changes.{DumpEntry}
use Rattle.wave_text.specs.Signals.{code_text}

-- the digit of a number's last binary place
abbrev pub digit : ℕ → ℕ
digit n = 48 + n % 2

-- the eight last digits of a number
abbrev pub byte_digits : ℕ → List ℕ
byte_digits n =
    digit (n / 128) ∷ digit (n / 64) ∷ digit (n / 32) ∷ digit (n / 16) ∷ digit (n / 8) ∷ digit (n / 4) ∷ digit (n / 2) ∷ digit n ∷ []

-- all 32 digits of a word
unfoldable pub word_digits : ℕ → List ℕ
word_digits n = byte_digits (n / 16777216) ++ byte_digits (n / 65536) ++ byte_digits (n / 256) ++ byte_digits n

-- a value: one digit, or digits behind `b` and before a blank; `x` where it is unknown
unfoldable pub value_text : Width → Option ℕ → List ℕ
value_text width.One None = codes "x"
value_text width.One (Some n) = digit n ∷ []
value_text width.Two None = codes "bx "
value_text width.Two (Some n) = 98 ∷ digit (n / 2) ∷ digit n ∷ 32 ∷ []
value_text width.Eight None = codes "bx "
value_text width.Eight (Some n) =
    98 ∷ digit (n / 128) ∷ digit (n / 64) ∷ digit (n / 32) ∷ digit (n / 16) ∷ digit (n / 8) ∷ digit (n / 4) ∷ digit (n / 2) ∷ digit n ∷ 32 ∷ []
value_text width.ThirtyTwo None = codes "bx "
value_text width.ThirtyTwo (Some n) = codes "b" ++ word_digits n ++ codes " "

-- the end of a signal's line
unfoldable pub signal_end : (code : ℕ) → List ℕ
signal_end code = code_text code ++ codes "\n"

-- the line of an entry: `#` and the count, or a value and the signal's code
unfoldable pub entry_line : DumpEntry → List ℕ
entry_line (DumpEntry.moment count) = codes "#" ++ decimal count ++ codes "\n"
entry_line (DumpEntry.change code width value) = value_text width value ++ signal_end code

-- those of entries in turn
abbrev pub entry_lines : List DumpEntry → List ℕ
entry_lines entries = flat_map entry_line entries
