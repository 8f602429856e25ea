-- Hexadecimal digits, both ways.
use Rattle.std.specs.Prelude.{ℕ, ◌+◌, ◌-◌, ◌*◌, ◌/◌, ◌%◌, ◌&&◌, ◌||◌, ◌==◌, List, [], ◌∷◌, ◌++◌, length, nat_le, nat_lt, Option, None, Some, if◌then◌else◌}

-- the digit of a value below 16
abbrev pub hex_digit : ℕ → ℕ
hex_digit n = if nat_lt n 10 then n + 48 else n + 87

-- the value of a digit of either case; 16 of another byte
abbrev pub digit_value : ℕ → ℕ
digit_value byte =
    if nat_le 48 byte && nat_le byte 57 then byte - 48
    else if nat_le 97 byte && nat_le byte 102 then byte - 87
    else if nat_le 65 byte && nat_le byte 70 then byte - 55
    else 16

-- bytes in two digits each
abbrev pub hex_of : List ℕ → List ℕ
hex_of [] = []
hex_of (byte ∷ bytes) = hex_digit (byte / 16) ∷ hex_digit (byte % 16) ∷ hex_of bytes

-- the number that goes on with these digits
abbrev pub number_from : ℕ → List ℕ → Option ℕ
number_from value [] = Some value
number_from value (byte ∷ bytes) =
    if nat_lt (digit_value byte) 16 then number_from ((value * 16 + digit_value byte) % 4294967296) bytes else None

-- the number of one to eight digits
abbrev pub number_of : List ℕ → Option ℕ
number_of text = if length text == 0 || nat_lt 8 (length text) then None else number_from 0 text

-- the bytes behind these that pairs of digits tell
abbrev pub bytes_behind : List ℕ → List ℕ → Option (List ℕ)
bytes_behind bytes [] = Some bytes
bytes_behind bytes (digit ∷ []) = None
bytes_behind bytes (high ∷ low ∷ digits) =
    if nat_lt (digit_value high) 16 && nat_lt (digit_value low) 16
    then bytes_behind (bytes ++ (digit_value high * 16 + digit_value low) ∷ []) digits
    else None

-- the bytes that pairs of digits tell
abbrev pub bytes_of_hex : List ℕ → Option (List ℕ)
bytes_of_hex text = if length text % 2 == 1 then None else bytes_behind [] text
