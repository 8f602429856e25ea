-- The rows of pieces of code and data: each piece goes to where the next one begins.
use Rattle.std.specs.Prelude.{ℕ, ◌-◌, ltb, cond, List, [], ◌∷◌, ◌++◌}
use Rattle.map_text.specs.declared.piece_starts.Row.{Row}
use Rattle.map_text.specs.declared.piece_starts.Start.{Start}

-- the row of a piece that goes to an address, if it has any bytes
abbrev pub row_to : Start → ℕ → List Row
row_to s to = cond (ltb s.at to) (record { kind = s.kind; number = s.number; base = s.at; len = to - s.at } ∷ []) []

-- where the first of these pieces begins, or an address where there is none
abbrev pub first_start : List Start → ℕ → ℕ
first_start [] end = end
first_start (s ∷ rest) end = s.at

-- the rows of pieces, each of which goes to the next, and the last one to an address
abbrev pub rows_between : List Start → ℕ → List Row
rows_between [] end = []
rows_between (s ∷ rest) end = row_to s (first_start rest end) ++ rows_between rest end
