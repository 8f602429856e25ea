-- Bytes that cannot stand in a packet for themselves, and what stands for them: `}` and the byte with its bit 5 the other way.
use Rattle.std.specs.Prelude.{ℕ, ◌+◌, ◌-◌, ◌/◌, ◌%◌, ◌==◌, ◌&&◌, ◌||◌, List, [], ◌∷◌, ◌++◌, Bool, true, false, not, if◌then◌else◌}

-- `#`, `$`, `*` and `}`
abbrev pub is_reserved : ℕ → Bool
is_reserved byte = byte == 35 || byte == 36 || byte == 42 || byte == 125

-- a byte with its bit 5 the other way
abbrev pub turned : ℕ → ℕ
turned byte = if byte / 32 % 2 == 1 then byte - 32 else byte + 32

-- what stands for a byte
abbrev pub escape_of : ℕ → List ℕ
escape_of byte = if is_reserved byte then 125 ∷ turned byte ∷ [] else byte ∷ []

-- what stands for bytes
abbrev pub escaped : List ℕ → List ℕ
escaped [] = []
escaped (byte ∷ bytes) = escape_of byte ++ escaped bytes

-- the bytes that stand in data, behind an escape if one is open; a `}` at the end stands for nothing
abbrev pub unescaped_from : Bool → List ℕ → List ℕ
unescaped_from open_escape [] = []
unescaped_from open_escape (byte ∷ bytes) =
    if open_escape then turned byte ∷ unescaped_from false bytes
    else if byte == 125 then unescaped_from true bytes
    else byte ∷ unescaped_from false bytes

-- the bytes that data stand for
abbrev pub unescaped : List ℕ → List ℕ
unescaped bytes = unescaped_from false bytes

-- no byte is `#`, `$` or `*`
abbrev pub is_unmarked : List ℕ → Bool
is_unmarked [] = true
is_unmarked (byte ∷ bytes) = not (byte == 35) && not (byte == 36) && not (byte == 42) && is_unmarked bytes
