use Rattle.std.proofs.Common.{◌≡◌, ◌++◌, drop}
use Rattle.text_pieces.specs.Pieces.{each_written}
use Rattle.text_pieces.proofs.pieces.put.Given as goal

abbrev pub invariant-loop-piece : goal.invariant-loop-piece
invariant-loop-piece l = l.text.items ++ each_written (drop l.piece-index l.pieces) ≡ l.initial.text.items ++ each_written l.pieces
