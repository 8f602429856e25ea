-- What the pieces of a text mean: its tokens and its faults.
use Rattle.std.specs.Prelude.{◌≡◌, ℕ, ◌+◌, ◌==◌, List, [], ◌∷◌, ◌++◌, length, count_by, drop, ◌⊎◌}
use Rattle.std.specs.Borrow.{Bor}
use Rattle.sloth_base.specs.declared.refusal.Part.TheVariants.{Oil}
use Rattle.sloth_base.specs.declared.refusal.Code.TheVariants as code
use Rattle.sloth_base.specs.declared.refusal.Refusal.{Refusal}
use Rattle.sloth_base.specs.declared.refusal.BuildError.{BuildError}
use Rattle.sloth_base.specs.declared.refusal.BuildError.TheVariants.{Refused, Memory}
use Rattle.oil_parse.specs.declared.tree.TokenKind.{TokenKind}
use Rattle.oil_parse.specs.declared.tree.TokenKind.TheVariants as token
use Rattle.oil_parse.specs.declared.tree.Token.{Token}
use Rattle.oil_parse.specs.declared.lexer.Meaning.{Meaning}
use Rattle.oil_parse.specs.declared.lexer.Meaning.TheVariants.{Nothing, IsToken, IsFault}
use Rattle.oil_parse.specs.declared.lexer.PieceKind.{PieceKind}
use Rattle.oil_parse.specs.declared.lexer.PieceKind.TheVariants as kind
use Rattle.text_pieces.specs.Digits.{value_from, capped_value}
use Rattle.oil_parse.specs.Pieces.{TextPiece, IsCutInto}

-- how many lines end in these bytes
abbrev pub line_ends : List ℕ → ℕ
line_ends bs = count_by (λ b. b == 10) bs

-- A token: what it is, its line, and its bytes without where they lie in memory.
pub record Lexeme : Type 0 where
  pub kind : TokenKind
  pub line : ℕ
  pub bytes : List ℕ

-- a token as the grammar sees it
abbrev pub lexeme : Token → Lexeme
lexeme t = record { kind = t.kind; line = t.line; bytes = t.span.now }

-- what a piece means: a token, a fault, or neither
abbrev pub meaning : PieceKind → List ℕ → Meaning
meaning kind.Word bs = IsToken token.Word
meaning kind.Decimal bs = IsToken (token.Number (capped_value (value_from 10 0 bs)))
meaning kind.Hexadecimal bs = IsToken (token.Number (capped_value (value_from 16 0 (drop 2 bs))))
meaning kind.Text bs = IsToken token.Text
meaning kind.Sign bs = IsToken token.Sign
meaning kind.Stray bs = IsFault code.O1
meaning kind.UnclosedComment bs = IsFault code.O2
meaning kind.UnclosedText bs = IsFault code.O3
meaning _ bs = Nothing

-- the token that a piece on line n is, if it is one
abbrev pub lexemes_by : Meaning → ℕ → List ℕ → List Lexeme
lexemes_by (IsToken k) n bs = record { kind = k; line = n; bytes = bs } ∷ []
lexemes_by _ n bs = []

-- r is the fault that a piece on line n is
abbrev pub FaultBy : Meaning → ℕ → Refusal → Type 0
FaultBy (IsFault c) n r = r ≡ record { part = Oil; line = n; code = c }
FaultBy _ n r = ⊥

-- the tokens of pieces that begin on line n
abbrev pub tokens_of : ℕ → List TextPiece → List Lexeme
tokens_of n [] = []
tokens_of n (p ∷ ps) = lexemes_by (meaning p.kind p.bytes) n p.bytes ++ tokens_of (n + line_ends p.bytes) ps

-- r is the fault of one of these pieces
abbrev pub FaultOf : ℕ → List TextPiece → Refusal → Type 0
FaultOf n [] r = ⊥
FaultOf n (p ∷ ps) r = FaultBy (meaning p.kind p.bytes) n r ⊎ FaultOf (n + line_ends p.bytes) ps r

-- these are the tokens of the text
abbrev pub AreTokens : List ℕ → List Lexeme → Type 0
AreTokens t ts = (ps : List TextPiece) × IsCutInto t ps × (ts ≡ tokens_of 1 ps)

-- the slice of a text in memory that begins at a place and has these bytes
abbrev pub slice_at : Bor (List ℕ) → ℕ → List ℕ → Bor (List ℕ)
slice_at text place bytes = record { ref_ptr = (text.ref_ptr.0, text.ref_ptr.1 + place); now = bytes }

-- the token in memory that a piece on line n is, if it is one
abbrev pub tokens_by : Meaning → ℕ → Bor (List ℕ) → List Token
tokens_by (IsToken k) n span = record { kind = k; line = n; span = span } ∷ []
tokens_by _ n span = []

-- the tokens in memory of pieces of a text that begin on line n at a place
abbrev pub tokens_at : Bor (List ℕ) → ℕ → ℕ → List TextPiece → List Token
tokens_at text n place [] = []
tokens_at text n place (p ∷ ps) =
    tokens_by (meaning p.kind p.bytes) n (slice_at text place p.bytes) ++ tokens_at text (n + line_ends p.bytes) (place + length p.bytes) ps

-- these are the tokens of the text, and the span of each is the slice of the text at its place
abbrev pub AreSlices : Bor (List ℕ) → List Token → Type 0
AreSlices text ts = (ps : List TextPiece) × IsCutInto text.now ps × (ts ≡ tokens_at text 1 0 ps)

-- a fault of the text
abbrev pub TextFault : List ℕ → Refusal → Type 0
TextFault t r = (ps : List TextPiece) × IsCutInto t ps × FaultOf 1 ps r

-- the piece is no fault
abbrev pub IsNoFault : Meaning → Type 0
IsNoFault (IsFault c) = ⊥
IsNoFault _ = Unit {0}

-- the error is want of memory, or the fault of a piece on line n.
abbrev pub RefusedBy : Meaning → ℕ → BuildError → Type 0
RefusedBy m n Memory = Unit {0}
RefusedBy m n (Refused r) = FaultBy m n r
