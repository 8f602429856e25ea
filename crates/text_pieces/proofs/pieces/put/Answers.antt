use Rattle.std.proofs.Common.{List, ◌++◌, ◌∙◌, ap, sym, append-nil}
use Rattle.std.proofs.lemmas.List.{drop_all}
use Rattle.text_pieces.specs.declared.pieces.Piece.{Piece}
use Rattle.text_pieces.specs.Pieces.{each_written}
use Rattle.text_pieces.proofs.Written.{all_is_each}
use Rattle.text_pieces.proofs.pieces.put.Goals as goal

pub returns : goal.returns
returns c =
    let put = c.loop-piece.text.items in
    sym (append-nil put)
    ∙ ap (λ (rest : List Piece). put ++ each_written rest) (sym (drop_all c.loop-piece.piece-index c.args.pieces.now c.loop-piece-test.false))
    ∙ c.loop-piece.invariant
    ∙ ap (λ written. c.args.text.now.items ++ written) (sym (all_is_each c.args.pieces.now))
