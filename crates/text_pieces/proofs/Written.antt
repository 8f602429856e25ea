-- What pieces write, grouped from the first and from the last.
use Rattle.std.proofs.Common.{◌≡◌, ◌∙◌, ℕ, List, [], ◌∷◌, ◌++◌, append_assoc, append-nil, refl, sym}
use Rattle.text_pieces.specs.declared.pieces.Piece.{Piece}
use Rattle.text_pieces.specs.Pieces.{written, written_behind, all_written, each_written}

behind_is : (text : List ℕ) (pieces : List Piece) → written_behind text pieces ≡ text ++ each_written pieces
behind_is text [] = sym (append-nil text)
behind_is text (piece ∷ pieces) = behind_is (text ++ written piece) pieces ∙ append_assoc text (written piece) (each_written pieces)

pub all_is_each : (pieces : List Piece) → all_written pieces ≡ each_written pieces
all_is_each [] = refl
all_is_each (piece ∷ pieces) = behind_is (written piece) pieces
