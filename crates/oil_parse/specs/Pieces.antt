-- How an OIL text falls into pieces: blanks, comments, tokens, and what is none of these (OIL 2.5, section 5).
use Rattle.std.specs.Prelude.{◌≡◌, ℕ, ◌<◌, ◌≤◌, Bool, true, false, ◌||◌, ◌&&◌, ◌==◌, List, [], ◌∷◌, ◌++◌, length, slice_index, take, drop}
use Rattle.oil_parse.specs.declared.lexer.Class.TheVariants as class
use Rattle.oil_parse.specs.declared.lexer.PieceKind.{PieceKind}
use Rattle.oil_parse.specs.declared.lexer.PieceKind.TheVariants as kind
use Rattle.oil_parse.specs.Bytes.{class_of, is_word_byte, is_digit, is_hex_digit, is_quoted, is_not_lf}

-- each byte passes the test
abbrev pub EachPasses : (ℕ → Bool) → List ℕ → Type 0
EachPasses p [] = Unit {0}
EachPasses p (b ∷ bs) = (p b ≡ true) × EachPasses p bs

-- The first byte, if there is one, does not pass. So a run before it can't be longer.
abbrev pub IsRunEnd : (ℕ → Bool) → List ℕ → Type 0
IsRunEnd p [] = Unit {0}
IsRunEnd p (b ∷ bs) = p b ≡ false

-- the text begins with `*/`
abbrev pub is_comment_end : List ℕ → Bool
is_comment_end t = (slice_index t 0 == 42) && (slice_index t 1 == 47)

-- no `*/` stands in the text
abbrev pub HasNoCommentEnd : List ℕ → Type 0
HasNoCommentEnd [] = Unit {0}
HasNoCommentEnd (b ∷ bs) = (is_comment_end (b ∷ bs) ≡ false) × HasNoCommentEnd bs

-- the text begins with `0x` or `0X` and a hexadecimal digit
abbrev pub begins_hex : List ℕ → Bool
begins_hex t = (slice_index t 0 == 48) && (((slice_index t 1 == 120) || (slice_index t 1 == 88)) && is_hex_digit (slice_index t 2))

-- The text begins with `/` or `*`. Behind a `/` a comment begins so.
abbrev pub begins_comment : List ℕ → Bool
begins_comment t = (slice_index t 0 == 47) || (slice_index t 0 == 42)

-- These bytes, with the rest of the text behind them, are a piece of this kind.
pub data IsTextPiece : PieceKind → List ℕ → List ℕ → Type 0 where
  is_one_blank : {b : ℕ} {rest : List ℕ} → class_of b ≡ class.Blank → IsTextPiece kind.Blank (b ∷ []) rest
  is_line_comment : {w rest : List ℕ} → EachPasses is_not_lf w → IsRunEnd is_not_lf rest → IsTextPiece kind.LineComment (47 ∷ 47 ∷ w) rest
  is_block_comment : (w : List ℕ) {rest : List ℕ} → HasNoCommentEnd (w ++ 42 ∷ []) → IsTextPiece kind.BlockComment (47 ∷ 42 ∷ (w ++ 42 ∷ 47 ∷ [])) rest
  is_word : {b : ℕ} {w rest : List ℕ} → class_of b ≡ class.Letter → EachPasses is_word_byte w → IsRunEnd is_word_byte rest → IsTextPiece kind.Word (b ∷ w) rest
  is_decimal : {b : ℕ} {w rest : List ℕ} → class_of b ≡ class.Digit → EachPasses is_digit w → IsRunEnd is_digit rest
      → begins_hex (b ∷ (w ++ rest)) ≡ false → IsTextPiece kind.Decimal (b ∷ w) rest
  is_hexadecimal : {x h : ℕ} {w rest : List ℕ} → ((x == 120) || (x == 88)) ≡ true → is_hex_digit h ≡ true → EachPasses is_hex_digit w → IsRunEnd is_hex_digit rest
      → IsTextPiece kind.Hexadecimal (48 ∷ x ∷ h ∷ w) rest
  is_text : (w : List ℕ) {rest : List ℕ} → EachPasses is_quoted w → IsTextPiece kind.Text (34 ∷ (w ++ 34 ∷ [])) rest
  is_sign : {b : ℕ} {rest : List ℕ} → class_of b ≡ class.Sign → IsTextPiece kind.Sign (b ∷ []) rest
  is_slash : {rest : List ℕ} → begins_comment rest ≡ false → IsTextPiece kind.Sign (47 ∷ []) rest
  -- a byte that begins none of these
  is_stray : {b : ℕ} {rest : List ℕ} → class_of b ≡ class.Other → IsTextPiece kind.Stray (b ∷ []) rest
  -- a comment that the text does not close
  is_unclosed_comment : {w : List ℕ} → HasNoCommentEnd w → IsTextPiece kind.UnclosedComment (47 ∷ 42 ∷ w) []
  -- a string whose line ends before it is closed
  is_unclosed_text_lf : {w rest : List ℕ} → EachPasses is_quoted w → IsTextPiece kind.UnclosedText (34 ∷ w) (10 ∷ rest)
  is_unclosed_text_end : {w : List ℕ} → EachPasses is_quoted w → IsTextPiece kind.UnclosedText (34 ∷ w) []

-- a piece: its kind and its bytes
pub record TextPiece : Type 0 where
  pub kind : PieceKind
  pub bytes : List ℕ

-- The whole text is cut into these pieces.
abbrev pub IsCutInto : List ℕ → List TextPiece → Type 0
IsCutInto text [] = text ≡ []
IsCutInto text (p ∷ ps) = (behind : List ℕ) × (text ≡ p.bytes ++ behind) × IsTextPiece p.kind p.bytes behind × IsCutInto behind ps

-- Something stands at the front of a text: its kind, and its length.
abbrev pub HasFront : List ℕ → PieceKind × ℕ → Type 0
HasFront t k = IsTextPiece k.0 (take k.1 t) (drop k.1 t) × (0 < k.1) × (k.1 ≤ length t)
