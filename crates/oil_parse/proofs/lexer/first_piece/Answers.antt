use Rattle.std.proofs.Common.{subst, sym}
use Rattle.std.specs.Prelude.{ℕ}
use Rattle.oil_parse.specs.declared.lexer.PieceKind.{PieceKind}
use Rattle.oil_parse.specs.Pieces.{HasFront}
use Rattle.oil_parse.proofs.Fronts.{front_stands}
use Rattle.oil_parse.proofs.lexer.first_piece.Goals as goal

pub returns : goal.returns
returns c = subst (λ (x : PieceKind × ℕ). HasFront c.args.text.now x) (sym c.front_piece.ensures) (front_stands c.args.text.now c.requires.some)
