-- Pieces right behind one another: their addresses.
use Rattle.std.specs.Prelude.{ℕ, ◌+◌, ◌*◌, List, [], ◌∷◌}

-- the addresses of pieces of these lengths, the first at an address
abbrev pub starts : ℕ → List ℕ → List ℕ
starts from [] = []
starts from (len ∷ lengths) = from ∷ starts (from + len) lengths

-- the address behind the last of them
abbrev pub end_of : ℕ → List ℕ → ℕ
end_of from [] = from
end_of from (len ∷ lengths) = end_of (from + len) lengths

-- the bytes of code of so many instructions
abbrev pub code_byte_count : ℕ → ℕ
code_byte_count instructions = 4 * instructions
