-- The words of a text are words: a letter or `_`, then letters, digits and `_`.
use Rattle.std.proofs.Common.{◌≡◌, ℕ, ◌+◌, true, List, [], ◌∷◌, ◌++◌, subst, sym}
use Rattle.std.specs.Prelude.{◌==◌}
use Rattle.std.specs.Char.{is_ascii_digit}
use Rattle.std.specs.List.{AllByRecursion}
use Rattle.std.proofs.lemmas.List.Elements.{All-from_recursion}
use Rattle.sloth_base.specs.ImageRange.{IsWord, begins_word, continues_word}
use Rattle.oil_parse.specs.declared.lexer.Class.TheVariants as class
use Rattle.oil_parse.specs.declared.tree.TokenKind.TheVariants as token
use Rattle.oil_parse.specs.declared.lexer.PieceKind.{PieceKind}
use Rattle.oil_parse.specs.Bytes.{class_of, is_word_byte, is_blank, is_plain_sign}
use Rattle.oil_parse.specs.Pieces.{EachPasses, IsTextPiece, is_word, is_decimal, is_hexadecimal, is_text, is_sign, is_slash, TextPiece, IsCutInto}
use Rattle.oil_parse.specs.Tokens.{Lexeme, meaning, line_ends, lexemes_by, tokens_of, AreTokens}
use Rattle.oil_parse.proofs.Fronts.{skip, took}

-- the bytes of a word
abbrev pub Spelled : Lexeme → Type 0
Spelled t = t.kind ≡ token.Word → IsWord t.bytes

letter_begins : (b : ℕ) → class_of b ≡ class.Letter → begins_word b ≡ true
unfolding class_of
letter_begins b c =
    let q = skip (is_blank b) class.Blank _ class.Letter (λ e. cc) c in
    took (begins_word b) class.Letter _ class.Letter
    (λ e.
    let r1 = skip (is_ascii_digit b) class.Digit _ class.Letter (λ f. cc) e in
    let r2 = skip (b == 34) class.Quote _ class.Letter (λ f. cc) r1 in
    let r3 = skip (b == 47) class.Slash _ class.Letter (λ f. cc) r2 in
    let r4 = skip (is_plain_sign b) class.Sign class.Other class.Letter (λ f. cc) r3 in cc) q

continues : (w : List ℕ) → EachPasses is_word_byte w → AllByRecursion (λ b. continues_word b ≡ true) w
unfolding is_word_byte
continues [] a = tt
continues (b ∷ w) a = (a.0, continues w a.1)

-- the token that a piece is
piece_spelled : {k : PieceKind} {p r : List ℕ} → IsTextPiece k p r → (n : ℕ) → AllByRecursion Spelled (lexemes_by (meaning k p) n p)
piece_spelled (is_word {b} {w} c a s) n = (λ e. (letter_begins b c, All-from_recursion (λ x. continues_word x ≡ true) w (continues w a)), tt)
piece_spelled (is_decimal c a s h) n = (λ e. cc, tt)
piece_spelled (is_hexadecimal q i a s) n = (λ e. cc, tt)
piece_spelled (is_text w a) n = (λ e. cc, tt)
piece_spelled (is_sign c) n = (λ e. cc, tt)
piece_spelled (is_slash h) n = (λ e. cc, tt)
piece_spelled _ n = tt

pub both_spelled : (ts us : List Lexeme) → AllByRecursion Spelled ts → AllByRecursion Spelled us → AllByRecursion Spelled (ts ++ us)
both_spelled [] us a b = b
both_spelled (t ∷ ts) us a b = (a.0, both_spelled ts us a.1 b)

pieces_spelled : (ps : List TextPiece) (text : List ℕ) (n : ℕ) → IsCutInto text ps → AllByRecursion Spelled (tokens_of n ps)
pieces_spelled [] text n c = tt
pieces_spelled (p ∷ ps) text n c =
    both_spelled (lexemes_by (meaning p.kind p.bytes) n p.bytes) (tokens_of (n + line_ends p.bytes) ps) (piece_spelled c.2 n) (pieces_spelled ps c.0 (n + line_ends p.bytes) c.3)

pub tokens_spelled : (text : List ℕ) (ts : List Lexeme) → AreTokens text ts → AllByRecursion Spelled ts
tokens_spelled text ts a = subst (λ (x : List Lexeme). AllByRecursion Spelled x) (sym a.2) (pieces_spelled a.0 text 1 a.1)
