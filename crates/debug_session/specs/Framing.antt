-- Data as a packet: `$`, the data with its escapes, `#`, and the sum of what stands between in two digits.
use Rattle.std.specs.Prelude.{ℕ, ◌/◌, ◌%◌, List, [], ◌∷◌, ◌++◌, sum}
use Rattle.debug_session.specs.Escapes.{escaped}
use Rattle.debug_session.specs.Hex.{hex_digit}

-- the sum of bytes, modulo 256
abbrev pub checksum : List ℕ → ℕ
checksum bytes = sum bytes % 256

-- bytes of a packet, as they stand in it
abbrev pub packet_of : List ℕ → List ℕ
packet_of bytes = 36 ∷ (bytes ++ 35 ∷ hex_digit (checksum bytes / 16) ∷ hex_digit (checksum bytes % 16) ∷ [])

-- data as a packet
abbrev pub framed : List ℕ → List ℕ
framed content = packet_of (escaped content)

-- packets behind one another
abbrev pub all_framed : List (List ℕ) → List ℕ
all_framed [] = []
all_framed (content ∷ contents) = framed content ++ all_framed contents
