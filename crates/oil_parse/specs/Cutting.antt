-- One piece more that is cut off a text.
use Rattle.std.specs.Prelude.{◌≡◌, ℕ, ◌+◌, List, ◌++◌, take, drop}
use Rattle.sloth_base.specs.declared.refusal.BuildError.{BuildError}
use Rattle.oil_parse.specs.declared.lexer.Cutter.{Cutter}
use Rattle.oil_parse.specs.declared.lexer.Meaning.{Meaning}
use Rattle.oil_parse.specs.declared.lexer.PieceKind.{PieceKind}
use Rattle.oil_parse.specs.Pieces.{HasFront}
use Rattle.oil_parse.specs.Tokens.{meaning, line_ends, slice_at, tokens_by, IsNoFault, RefusedBy}

-- what is left of the text
abbrev pub rest_of : Cutter → List ℕ
rest_of c = drop c.place c.text.now

-- what a piece of this kind and length at the front of a text means
abbrev pub front_meaning : PieceKind × ℕ → List ℕ → Meaning
front_meaning k rest = meaning k.0 (take k.1 rest)

-- d is c with the piece at the front of the rest cut off, which is no fault
pub record HasCut (c d : Cutter) : Type 0 where
  pub piece : PieceKind × ℕ
  pub begins : HasFront (rest_of c) piece
  pub no_fault : IsNoFault (front_meaning piece (rest_of c))
  pub text : d.text ≡ c.text
  pub place : d.place ≡ c.place + piece.1
  pub line : d.line ≡ c.line + line_ends (take piece.1 (rest_of c))
  pub tokens : d.tokens.items ≡ c.tokens.items ++ tokens_by (front_meaning piece (rest_of c)) c.line (slice_at c.text c.place (take piece.1 (rest_of c)))

-- the error is want of memory, or the fault of the piece at the front of the rest
pub record IsStopped (c : Cutter) (error : BuildError) : Type 0 where
  pub piece : PieceKind × ℕ
  pub begins : HasFront (rest_of c) piece
  pub refused : RefusedBy (front_meaning piece (rest_of c)) c.line error
