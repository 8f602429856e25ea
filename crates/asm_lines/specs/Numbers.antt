-- Numbers of task source: decimal digits, or `0x` and hexadecimal digits, with an optional `-` before them.
use Rattle.std.specs.Prelude.{ℕ, ℤ, pos, neg_ℤ, int_lt, true, false, Bool, if◌then◌else◌, ◌&&◌, ◌==◌, not, List, slice_index, drop, length, Option, Some, None}
use Rattle.std.specs.List.{list_all}
use Rattle.text_pieces.specs.Digits.{value_from, capped_value}
use Rattle.std.specs.Char.{is_ascii_digit, is_ascii_hexdigit}

-- `0x` stands in front
abbrev pub is_hexadecimal : List ℕ → Bool
is_hexadecimal t = (slice_index t 0 == 48) && (slice_index t 1 == 120)

-- at least one, and each passes
abbrev pub is_numeral_of : (ℕ → Bool) → List ℕ → Bool
is_numeral_of p t = not (length t == 0) && list_all p t

-- the number without its sign
unfoldable pub magnitude : List ℕ → Option ℕ
magnitude t =
    if is_hexadecimal t then (if is_numeral_of is_ascii_hexdigit (drop 2 t) then Some (capped_value (value_from 16 0 (drop 2 t))) else None)
    else (if is_numeral_of is_ascii_digit t then Some (capped_value (value_from 10 0 t)) else None)

-- the number with its sign
abbrev pub signed_number : Bool → Option ℕ → Option ℤ
signed_number is_negative None = None
signed_number is_negative (Some n) = if is_negative then Some (neg_ℤ (pos n)) else Some (pos n)

-- the number that a text is
unfoldable pub number : List ℕ → Option ℤ
number t = if slice_index t 0 == 45 then signed_number true (magnitude (drop 1 t)) else signed_number false (magnitude t)

-- from low to high
abbrev pub is_within : ℤ → ℤ → ℤ → Bool
is_within low high n = not (int_lt n low) && not (int_lt high n)
