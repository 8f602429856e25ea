-- What stands at the front of a text is a piece, and it is the only one.
use Rattle.std.proofs.Common.{◌≡◌, ℕ, ◌+◌, ◌<◌, ◌≤◌, Bool, true, false, List, [], ◌∷◌, ◌++◌, length, drop, take, get_or, cond, refl, ap, arith, sym, ◌∙◌, subst, ◌&&◌, ◌||◌, length-append, ◌⊎◌, inl, inr, ⊎_elim}
use Rattle.std.specs.Prelude.{◌==◌}
use Rattle.std.specs.List.{prefix_len}
use Rattle.std.specs.Char.{is_ascii_digit, is_ascii_alphabetic}
use Rattle.std.proofs.Common.{append_assoc}
use Rattle.std.proofs.lemmas.Bool.{lt-ltb, le-ltb, eqb-true, cases_lt, and_parts, or_parts}
use Rattle.std.proofs.lemmas.List.{append-nil, take-append-drop, get_or_past}
use Rattle.std.proofs.lemmas.List.Folds.{length-prefix_len}
use Rattle.std.proofs.Math.Seq.{get_or-append_seam, take-append_seam, drop-append_seam}
use Rattle.oil_parse.specs.declared.lexer.Class.{Class}
use Rattle.oil_parse.specs.declared.lexer.Class.TheVariants as class
use Rattle.oil_parse.specs.declared.lexer.PieceKind.{PieceKind}
use Rattle.oil_parse.specs.declared.lexer.PieceKind.TheVariants as kind
use Rattle.oil_parse.specs.Bytes.{class_of, is_word_byte, is_digit, is_hex_digit, is_quoted, is_not_lf, is_blank, is_plain_sign}
use Rattle.oil_parse.specs.Pieces.{IsTextPiece, is_one_blank, is_line_comment, is_block_comment, is_word, is_decimal, is_hexadecimal, is_text, is_sign, is_slash, is_stray, is_unclosed_comment, is_unclosed_text_lf, is_unclosed_text_end, begins_hex, EachPasses, IsRunEnd, HasNoCommentEnd, HasFront}
use Rattle.oil_parse.specs.Front.{front_piece, piece_by, number_piece, slash_piece, text_piece, comment_piece, comment_length}
use Rattle.oil_parse.proofs.Lengths.{run_ends, run_front, never_closes, closes_behind, open_all, comment_length_le, open_front, no_byte, either}

-- a test that chose what it could not have chosen was false
pub skip : (t : Bool) (x y z : Class) → (x ≡ z → ⊥) → cond t x y ≡ z → y ≡ z
skip true x y z n e = absurd (n e)
skip false x y z n e = e

pub took : (t : Bool) (x y z : Class) → (y ≡ z → ⊥) → cond t x y ≡ z → t ≡ true
took true x y z n e = refl
took false x y z n e = absurd (n e)

class_quote : (b : ℕ) → class_of b ≡ class.Quote → b ≡ 34
unfolding class_of
class_quote b c =
    let q1 = skip (is_blank b) class.Blank _ class.Quote (λ e. cc) c in
    let q2 = skip (is_ascii_alphabetic b || (b == 95)) class.Letter _ class.Quote (λ e. cc) q1 in
    let q3 = skip (is_ascii_digit b) class.Digit _ class.Quote (λ e. cc) q2 in
    eqb-true b 34 (took (b == 34) class.Quote _ class.Quote
    (λ e. let r1 = skip (b == 47) class.Slash _ class.Quote (λ f. cc) e in let r2 = skip (is_plain_sign b) class.Sign class.Other class.Quote (λ f. cc) r1 in cc) q3)

class_slash : (b : ℕ) → class_of b ≡ class.Slash → b ≡ 47
unfolding class_of
class_slash b c =
    let q1 = skip (is_blank b) class.Blank _ class.Slash (λ e. cc) c in
    let q2 = skip (is_ascii_alphabetic b || (b == 95)) class.Letter _ class.Slash (λ e. cc) q1 in
    let q3 = skip (is_ascii_digit b) class.Digit _ class.Slash (λ e. cc) q2 in
    let q4 = skip (b == 34) class.Quote _ class.Slash (λ e. cc) q3 in
    eqb-true b 47 (took (b == 47) class.Slash _ class.Slash (λ e. let r2 = skip (is_plain_sign b) class.Sign class.Other class.Slash (λ f. cc) e in cc) q4)

pair : (k : PieceKind) (m n : ℕ) → m ≡ n → ◌≡◌ {A = PieceKind × ℕ} (k, m) (k, n)
pair k m n e = ap (λ x. (k, x)) e

comment_closed : (w r : List ℕ) → HasNoCommentEnd (w ++ 42 ∷ []) → comment_piece (w ++ 42 ∷ 47 ∷ r) ≡ (kind.BlockComment, length w + 4)
unfolding comment_piece
comment_closed w r n =
    let o = closes_behind w r n in
    let l : comment_length (w ++ 42 ∷ 47 ∷ r) < length (w ++ 42 ∷ 47 ∷ r) = omega (arith, o, length-append w (42 ∷ 47 ∷ r)) in
    rw (lt-ltb _ _ l) (pair kind.BlockComment _ _ (omega (arith, o)))

comment_open : (w : List ℕ) → HasNoCommentEnd w → comment_piece w ≡ (kind.UnclosedComment, length w + 2)
unfolding comment_piece
comment_open w n =
    let o = never_closes w n in
    let l : length w ≤ comment_length w = omega (arith, o) in
    rw (le-ltb _ _ l) (pair kind.UnclosedComment _ _ (omega (arith, o)))

-- behind a quote, with the quoted bytes w
text_is : (w r : List ℕ) → EachPasses is_quoted w → IsRunEnd is_quoted r
    → text_piece (w ++ r) ≡ cond (get_or (w ++ r) (length w) 0 == 34) (kind.Text, length w + 2) (kind.UnclosedText, length w + 1)
unfolding text_piece
text_is w r a s = rw (run_ends is_quoted w r a s) refl

text_ends : (w : List ℕ) → EachPasses is_quoted w → text_piece (w ++ []) ≡ (kind.UnclosedText, length w + 1)
text_ends w a = rw (text_is w [] a tt, append-nil w, get_or_past w (length w) 0 (omega arith)) refl

-- Each piece is the front of the text that begins with it.
pub front_is : {k : PieceKind} {p r : List ℕ} → IsTextPiece k p r → front_piece (p ++ r) ≡ (k, length p)
unfolding piece_by number_piece slash_piece class_of is_quoted
front_is (is_one_blank c) = rw c refl
front_is (is_line_comment {w} {rest} a s) = let e = run_ends is_not_lf w rest a s in pair kind.LineComment _ _ (omega (arith, e))
front_is (is_block_comment w {rest} n) = rw append_assoc (comment_closed w rest n ∙ pair kind.BlockComment _ _ (omega (arith, length-append w (42 ∷ 47 ∷ []))))
front_is (is_word {b} {w} {rest} c a s) = rw c (let e = run_ends is_word_byte w rest a s in pair kind.Word _ _ (omega (arith, e)))
front_is (is_decimal {b} {w} {rest} c a s h) = rw (c, h) (let e = run_ends is_digit w rest a s in pair kind.Decimal _ _ (omega (arith, e)))
front_is (is_hexadecimal {x} {h} {w} {rest} q i a s) = rw (q, i) (let e = run_ends is_hex_digit w rest a s in pair kind.Hexadecimal _ _ (omega (arith, e)))
front_is (is_text w {rest} a) = rw (append_assoc, text_is w (34 ∷ rest) a refl, get_or-append_seam w 34 rest 0) (pair kind.Text _ _ (omega (arith, length-append w (34 ∷ []))))
front_is (is_sign c) = rw c refl
front_is (is_slash {rest} h) = let p = or_parts (get_or rest 0 0 == 47) (get_or rest 0 0 == 42) h in rw (p.0, p.1) refl
front_is (is_stray c) = rw c refl
front_is (is_unclosed_comment {w} n) = ap comment_piece (append-nil w) ∙ (comment_open w n ∙ pair kind.UnclosedComment _ _ (omega arith))
front_is (is_unclosed_text_lf {w} {rest} a) = rw (text_is w (10 ∷ rest) a refl, get_or-append_seam w 10 rest 0) (pair kind.UnclosedText _ _ (omega arith))
front_is (is_unclosed_text_end {w} a) = text_ends w a ∙ pair kind.UnclosedText _ _ (omega arith)

stands : (k : PieceKind) (p r : List ℕ) (n : ℕ) → n ≡ length p → 0 < n → IsTextPiece k p r → HasFront (p ++ r) (k, n)
stands k p r n e h i =
    rw (e, take-append_seam p r, drop-append_seam p r) (i, omega arith, omega (arith, length-append p r))

run_stands : (p : ℕ → Bool) (s : List ℕ) (P : List ℕ → ℕ → Type 0)
    → ((w r : List ℕ) → EachPasses p w → IsRunEnd p r → P (w ++ r) (length w)) → P s (prefix_len p s)
run_stands p s P f =
    let r = run_front p s in
    subst (λ (x : List ℕ). P x (prefix_len p s)) (take-append-drop (prefix_len p s) s)
    (subst (λ (n : ℕ). P (take (prefix_len p s) s ++ drop (prefix_len p s) s) n) (length-prefix_len p s) (f _ _ r.0 r.1))

word_stands : (b : ℕ) (s : List ℕ) → class_of b ≡ class.Letter → HasFront (b ∷ s) (kind.Word, prefix_len is_word_byte s + 1)
word_stands b s c =
    run_stands is_word_byte s (λ (x : List ℕ) (n : ℕ). HasFront (b ∷ x) (kind.Word, n + 1))
    (λ w r a e. stands kind.Word (b ∷ w) r (length w + 1) (omega arith) (omega arith) (is_word c a e))

comment_stands : (s : List ℕ) → HasFront (47 ∷ 42 ∷ s) (comment_piece s)
unfolding comment_piece
comment_stands s = elim (cases_lt (comment_length s) (length s)) [
  | inl h ↦
      let o = open_front s h in
      let e : comment_length s + 4 ≡ length (47 ∷ 42 ∷ (o.0 ++ 42 ∷ 47 ∷ [])) = omega (arith, o.3, length-append o.0 (42 ∷ 47 ∷ [])) in
      let f : 47 ∷ 42 ∷ s ≡ (47 ∷ 42 ∷ (o.0 ++ 42 ∷ 47 ∷ [])) ++ o.1 = ap (λ x. 47 ∷ 42 ∷ x) (o.2 ∙ sym (append_assoc o.0 (42 ∷ 47 ∷ []) o.1)) in
      rw (lt-ltb _ _ h) (subst (λ (x : List ℕ). HasFront x (kind.BlockComment, comment_length s + 4)) (sym f)
      (stands kind.BlockComment (47 ∷ 42 ∷ (o.0 ++ 42 ∷ 47 ∷ [])) o.1 (comment_length s + 4) e (omega arith) (is_block_comment o.0 o.4)))
  | inr h ↦
      let l = comment_length_le s in
      let e : comment_length s + 2 ≡ length (47 ∷ 42 ∷ s) = omega (arith, l) in
      rw (le-ltb _ _ h) (subst (λ (x : List ℕ). HasFront x (kind.UnclosedComment, comment_length s + 2)) (append-nil (47 ∷ 42 ∷ s))
      (stands kind.UnclosedComment (47 ∷ 42 ∷ s) [] (comment_length s + 2) e (omega arith) (is_unclosed_comment (open_all s (omega (arith, l))))))
]

line_stands : (s : List ℕ) → HasFront (47 ∷ 47 ∷ s) (kind.LineComment, prefix_len is_not_lf s + 2)
line_stands s =
    run_stands is_not_lf s (λ (x : List ℕ) (n : ℕ). HasFront (47 ∷ 47 ∷ x) (kind.LineComment, n + 2))
    (λ w r a e. stands kind.LineComment (47 ∷ 47 ∷ w) r (length w + 2) (omega arith) (omega arith) (is_line_comment a e))

-- what may follow quoted bytes
quote_or_lf : (b : ℕ) → is_quoted b ≡ false → (b ≡ 34) ⊎ (b ≡ 10)
unfolding is_quoted
quote_or_lf b h = ⊎_elim (λ e. inl (eqb-true b 34 e)) (λ e. inr (eqb-true b 10 e)) (either (b == 34) (b == 10) h)

quoted_stands : (w r : List ℕ) → EachPasses is_quoted w → IsRunEnd is_quoted r
    → HasFront (34 ∷ (w ++ r)) (cond (get_or (w ++ r) (length w) 0 == 34) (kind.Text, length w + 2) (kind.UnclosedText, length w + 1))
quoted_stands w [] a s =
    rw (append-nil, get_or_past w (length w) 0 (omega arith))
    (subst (λ (x : List ℕ). HasFront x (kind.UnclosedText, length w + 1)) (append-nil (34 ∷ w))
    (stands kind.UnclosedText (34 ∷ w) [] (length w + 1) (omega arith) (omega arith) (is_unclosed_text_end a)))
quoted_stands w (b ∷ r) a s = rw (get_or-append_seam w b r 0) (⊎_elim
    (λ e. subst (λ (x : ℕ). HasFront (34 ∷ (w ++ x ∷ r)) (cond (x == 34) (kind.Text, length w + 2) (kind.UnclosedText, length w + 1))) (sym e)
    (subst (λ (x : List ℕ). HasFront (34 ∷ x) (kind.Text, length w + 2)) (append_assoc w (34 ∷ []) r)
    (stands kind.Text (34 ∷ (w ++ 34 ∷ [])) r (length w + 2) (omega (arith, length-append w (34 ∷ []))) (omega arith) (is_text w a))))
    (λ e. subst (λ (x : ℕ). HasFront (34 ∷ (w ++ x ∷ r)) (cond (x == 34) (kind.Text, length w + 2) (kind.UnclosedText, length w + 1))) (sym e)
    (stands kind.UnclosedText (34 ∷ w) (10 ∷ r) (length w + 1) (omega arith) (omega arith) (is_unclosed_text_lf a)))
    (quote_or_lf b s))

text_stands : (s : List ℕ) → HasFront (34 ∷ s) (text_piece s)
unfolding text_piece
text_stands s =
    run_stands is_quoted s (λ (x : List ℕ) (n : ℕ). HasFront (34 ∷ x) (cond (get_or x n 0 == 34) (kind.Text, n + 2) (kind.UnclosedText, n + 1))) quoted_stands

slash_stands : (s : List ℕ) → HasFront (47 ∷ s) (slash_piece (47 ∷ s))
unfolding slash_piece
slash_stands [] = (is_slash refl, omega arith, omega arith)
slash_stands (c ∷ s) =
    let P : Bool → Bool → Type 0 = λ u v. (c == 47) ≡ u → (c == 42) ≡ v
    → HasFront (47 ∷ c ∷ s) (cond u (kind.LineComment, prefix_len is_not_lf s + 2) (cond v (comment_piece s) (kind.Sign, 1))) in
    (elim (c == 47) as (λ u. P u (c == 42)) [
      | true ↦ λ e f. subst (λ (x : ℕ). HasFront (47 ∷ x ∷ s) (kind.LineComment, prefix_len is_not_lf s + 2)) (sym (eqb-true c 47 e)) (line_stands s)
      | false ↦ elim (c == 42) as (λ v. P false v) [
        | true ↦ λ e f. subst (λ (x : ℕ). HasFront (47 ∷ x ∷ s) (comment_piece s)) (sym (eqb-true c 42 f)) (comment_stands s)
        | false ↦ λ e f. (is_slash (rw (e, f) refl), omega arith, omega arith)
      ]
    ]) refl refl

hex_stands : (x h : ℕ) (s : List ℕ) → ((x == 120) || (x == 88)) ≡ true → is_hex_digit h ≡ true
    → HasFront (48 ∷ x ∷ h ∷ s) (kind.Hexadecimal, prefix_len is_hex_digit s + 3)
hex_stands x h s q i =
    run_stands is_hex_digit s (λ (y : List ℕ) (n : ℕ). HasFront (48 ∷ x ∷ h ∷ y) (kind.Hexadecimal, n + 3))
    (λ w r a e. stands kind.Hexadecimal (48 ∷ x ∷ h ∷ w) r (length w + 3) (omega arith) (omega arith) (is_hexadecimal q i a e))

decimal_stands : (b : ℕ) (s : List ℕ) → class_of b ≡ class.Digit → begins_hex (b ∷ s) ≡ false → HasFront (b ∷ s) (kind.Decimal, prefix_len is_digit s + 1)
decimal_stands b s c h =
    (run_stands is_digit s (λ (x : List ℕ) (n : ℕ). begins_hex (b ∷ x) ≡ false → HasFront (b ∷ x) (kind.Decimal, n + 1))
    (λ w r a e f. stands kind.Decimal (b ∷ w) r (length w + 1) (omega arith) (omega arith) (is_decimal c a e f))) h

hex_at : (b : ℕ) (s : List ℕ) → begins_hex (b ∷ s) ≡ true → HasFront (b ∷ s) (kind.Hexadecimal, prefix_len is_hex_digit (drop 2 s) + 3)
unfolding is_hex_digit
hex_at b [] h = absurd (no_byte (b == 48) h)
hex_at b (x ∷ []) h = absurd (no_byte ((x == 120) || (x == 88)) (and_parts (b == 48) (((x == 120) || (x == 88)) && false) h).1)
hex_at b (x ∷ d ∷ s) h =
    let p = and_parts (b == 48) (((x == 120) || (x == 88)) && is_hex_digit d) h in
    let q = and_parts ((x == 120) || (x == 88)) (is_hex_digit d) p.1 in
    subst (λ (y : ℕ). HasFront (y ∷ x ∷ d ∷ s) (kind.Hexadecimal, prefix_len is_hex_digit s + 3)) (sym (eqb-true b 48 p.0)) (hex_stands x d s q.0 q.1)

number_stands : (b : ℕ) (s : List ℕ) → class_of b ≡ class.Digit → HasFront (b ∷ s) (number_piece (b ∷ s))
unfolding number_piece
number_stands b s c =
    let P : Bool → Type 0 = λ v. begins_hex (b ∷ s) ≡ v
    → HasFront (b ∷ s) (cond v (kind.Hexadecimal, prefix_len is_hex_digit (drop 2 s) + 3) (kind.Decimal, prefix_len is_digit s + 1)) in
    elim (begins_hex (b ∷ s)) as P [ true ↦ hex_at b s | false ↦ decimal_stands b s c ] refl

-- Each text with a byte begins with a piece.
pub front_stands : (t : List ℕ) → 0 < length t → HasFront t (front_piece t)
unfolding piece_by
front_stands [] h = absurd (omega arith)
front_stands (b ∷ s) h =
    let P : Class → Type 0 = λ k. class_of b ≡ k → HasFront (b ∷ s) (piece_by k (b ∷ s)) in
    elim (class_of b) as P [
      | class.Blank ↦ λ c. (is_one_blank c, omega arith, omega arith)
      | class.Letter ↦ word_stands b s
      | class.Digit ↦ number_stands b s
      | class.Quote ↦ λ c. subst (λ (x : ℕ). HasFront (x ∷ s) (text_piece s)) (sym (class_quote b c)) (text_stands s)
      | class.Slash ↦ λ c. subst (λ (x : ℕ). HasFront (x ∷ s) (slash_piece (x ∷ s))) (sym (class_slash b c)) (slash_stands s)
      | class.Sign ↦ λ c. (is_sign c, omega arith, omega arith)
      | class.Other ↦ λ c. (is_stray c, omega arith, omega arith)
    ] refl
