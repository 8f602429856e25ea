-- Text from pieces.
use Rattle.std.specs.Prelude.{ℕ, List, [], ◌∷◌, ◌++◌, decimal}
use Rattle.text_pieces.specs.declared.pieces.Piece.{Piece}
use Rattle.text_pieces.specs.declared.pieces.Piece.TheVariants.{Word, Number, Count, Sum}

-- what a piece writes
abbrev pub written : Piece → List ℕ
written (Word word) = word.now
written (Number number) = decimal number
written (Count count) = decimal count
written (Sum sum) = decimal sum

-- a text, and behind it what pieces write
abbrev pub written_behind : List ℕ → List Piece → List ℕ
written_behind text [] = text
written_behind text (piece ∷ pieces) = written_behind (text ++ written piece) pieces

-- what pieces write, one after another
abbrev pub all_written : List Piece → List ℕ
all_written [] = []
all_written (piece ∷ pieces) = written_behind (written piece) pieces

-- the same, grouped from the last
abbrev pub each_written : List Piece → List ℕ
each_written [] = []
each_written (piece ∷ pieces) = written piece ++ each_written pieces
