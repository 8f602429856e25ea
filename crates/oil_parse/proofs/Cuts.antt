-- Each text has one cut into pieces, and the first fault of the cut is the least.
use Rattle.std.proofs.Common.{◌≡◌, ℕ, ◌+◌, ◌<◌, ◌≤◌, List, [], ◌∷◌, ◌++◌, length, drop, take, map, refl, ap, arith, sym, ◌∙◌, subst, suc, zero, ◌⊎◌, inl, inr, ⊎_elim, ◌↔◌, append_assoc, length-append, length-drop, length-take-le, drop-drop, drop_of_length-le}
use Rattle.std.specs.Borrow.{Bor}
use Rattle.std.specs.Prelude.{◌==◌}
use Rattle.std.proofs.lemmas.List.Sums.{count_by-le-length}
use Rattle.std.proofs.lemmas.Bool.{cases_lt}
use Rattle.std.proofs.lemmas.List.{append-nil, take-append-drop}
use Rattle.std.proofs.Math.Seq.{take-append_seam, drop-append_seam}
use Rattle.sloth_base.specs.declared.refusal.Code.TheVariants as code
use Rattle.sloth_base.specs.declared.refusal.Part.TheVariants.{Oil}
use Rattle.sloth_base.specs.declared.refusal.Refusal.{Refusal}
use Rattle.sloth_base.specs.Order.{IsNoLater, IsLeast, NoFault, ErrorIs}
use Rattle.sloth_base.specs.declared.refusal.BuildError.{BuildError}
use Rattle.sloth_base.specs.declared.refusal.BuildError.TheVariants.{Refused, Memory}
use Rattle.oil_parse.specs.declared.lexer.PieceKind.{PieceKind}
use Rattle.oil_parse.specs.declared.lexer.PieceKind.TheVariants as kind
use Rattle.oil_parse.specs.Bytes.{class_of}
use Rattle.oil_parse.specs.Pieces.{IsTextPiece, is_one_blank, is_line_comment, is_block_comment, is_word, is_decimal, is_hexadecimal, is_text, is_sign, is_slash, is_stray, is_unclosed_comment, is_unclosed_text_lf, is_unclosed_text_end, TextPiece, IsCutInto, HasFront}
use Rattle.oil_parse.specs.declared.tree.Token.{Token}
use Rattle.oil_parse.specs.declared.lexer.Cutter.{Cutter}
use Rattle.oil_parse.specs.Tokens.{Lexeme, lexeme, tokens_of, lexemes_by, slice_at, tokens_by, tokens_at, FaultOf, FaultBy, meaning, line_ends, TextFault, AreTokens, AreSlices, IsNoFault}
use Rattle.oil_parse.specs.Cutting.{rest_of, front_meaning, HasCut, IsStopped}
use Rattle.oil_parse.specs.declared.lexer.Meaning.{Meaning}
use Rattle.oil_parse.specs.declared.lexer.Meaning.TheVariants.{Nothing, IsToken, IsFault}
use Rattle.oil_parse.specs.Front.{front_piece}
use Rattle.oil_parse.proofs.Fronts.{front_is, front_stands}

same_piece : (p q : TextPiece) → p.kind ≡ q.kind → p.bytes ≡ q.bytes → p ≡ q
same_piece p q e f = ap (λ x. record p { kind = x }) e ∙ ap (λ x. record q { bytes = x }) f

-- Of one text, two pieces at the front are one.
pub piece_one : {k j : PieceKind} {p q a b : List ℕ} → IsTextPiece k p a → IsTextPiece j q b → p ++ a ≡ q ++ b → (k ≡ j) × (p ≡ q) × (a ≡ b)
piece_one {k} {j} {p} {q} {a} {b} x y e =
    let f : (k, length p) ≡ (j, length q) = sym (front_is x) ∙ (ap front_piece e ∙ front_is y) in
    let n : length p ≡ length q = ap (λ (w : PieceKind × ℕ). w.1) f in (
      ap (λ (w : PieceKind × ℕ). w.0) f,
      sym (take-append_seam p a) ∙ (ap (λ m. take m (p ++ a)) n ∙ (ap (take (length q)) e ∙ take-append_seam q b)),
      sym (drop-append_seam p a) ∙ (ap (λ m. drop m (p ++ a)) n ∙ (ap (drop (length q)) e ∙ drop-append_seam q b)),
    )

pub piece_some : {k : PieceKind} {p r : List ℕ} → IsTextPiece k p r → 0 < length p
piece_some (is_one_blank c) = omega arith
piece_some (is_line_comment a s) = omega arith
piece_some (is_block_comment w n) = omega arith
piece_some (is_word c a s) = omega arith
piece_some (is_decimal c a s h) = omega arith
piece_some (is_hexadecimal q i a s) = omega arith
piece_some (is_text w a) = omega arith
piece_some (is_sign c) = omega arith
piece_some (is_slash h) = omega arith
piece_some (is_stray c) = omega arith
piece_some (is_unclosed_comment n) = omega arith
piece_some (is_unclosed_text_lf a) = omega arith
piece_some (is_unclosed_text_end a) = omega arith

-- The end of the text has no piece.
cut_end : (ps : List TextPiece) → IsCutInto [] ps → ps ≡ []
cut_end [] c = refl
cut_end (p ∷ ps) c = absurd (let s = piece_some c.2 in let e = ap length c.1 in omega (arith, s, e, length-append p.bytes c.0))

pub cut_one : (ps qs : List TextPiece) (t : List ℕ) → IsCutInto t ps → IsCutInto t qs → ps ≡ qs
cut_one [] qs t c d = sym (cut_end qs (subst (λ (x : List ℕ). IsCutInto x qs) c d))
cut_one (p ∷ ps) [] t c d = cut_end (p ∷ ps) (subst (λ (x : List ℕ). IsCutInto x (p ∷ ps)) d c)
cut_one (p ∷ ps) (q ∷ qs) t c d =
    let e = piece_one c.2 d.2 (sym c.1 ∙ d.1) in
    let head = same_piece p q e.0 e.1 in
    let tail = cut_one ps qs d.0 (subst (λ (x : List ℕ). IsCutInto x ps) e.2 c.3) d.3 in
    cc

-- A text has one list of tokens.
pub tokens_one : (t : List ℕ) (ts us : List Lexeme) → AreTokens t ts → AreTokens t us → ts ≡ us
tokens_one t ts us a b = a.2 ∙ (ap (tokens_of 1) (cut_one a.0 b.0 t a.1 b.1) ∙ sym b.2)

cut_by : (n : ℕ) (t : List ℕ) → length t ≤ n → (ps : List TextPiece) × IsCutInto t ps
cut_by n [] h = ([], refl)
cut_by zero (b ∷ t) h = absurd (omega arith)
cut_by (suc n) (b ∷ t) h =
    let s = front_stands (b ∷ t) (omega arith) in
    let k = front_piece (b ∷ t) in
    let c = cut_by n (drop k.1 (b ∷ t)) (omega (arith, s.1, s.2, length-drop k.1 (b ∷ t))) in
    (record { kind = k.0; bytes = take k.1 (b ∷ t) } ∷ c.0, (drop k.1 (b ∷ t), sym (take-append-drop k.1 (b ∷ t)), s.0, c.1))

pub cut_of : (t : List ℕ) → (ps : List TextPiece) × IsCutInto t ps
cut_of t = cut_by (length t) t (omega arith)

-- A fault stands on the line where its pieces begin, or below.
fault_line : (ps : List TextPiece) (n : ℕ) (r : Refusal) → FaultOf n ps r → n ≤ r.line
fault_line [] n r f = absurd f
fault_line (p ∷ ps) n r f = ⊎_elim (at_line (meaning p.kind p.bytes) n r) (λ g. let h = fault_line ps (n + line_ends p.bytes) r g in omega (arith, h)) f
  where
    at_line : (m : Meaning) (n : ℕ) (r : Refusal) → FaultBy m n r → n ≤ r.line
    at_line Nothing n r f = absurd f
    at_line (IsToken k) n r f = absurd f
    at_line (IsFault c) n r f = let e = ap (λ (x : Refusal). x.line) f in omega (arith, e)

o1_first : (n : ℕ) (s : Refusal) → n ≤ s.line → IsNoLater (record { part = Oil; line = n; code = code.O1 }) s
o1_first n s h = elim (cases_lt n s.line) [ inl l ↦ inl l | inr g ↦ inr (omega arith, omega arith) ]

-- Behind a line end the pieces begin on the next line.
below_lf : (rest : List ℕ) (ps : List TextPiece) → IsCutInto (10 ∷ rest) ps → (n : ℕ) (s : Refusal) → FaultOf n ps s → n < s.line
unfolding class_of
below_lf rest [] c n s f = absurd f
below_lf rest (p ∷ ps) c n s f =
    let blank : IsTextPiece kind.Blank (10 ∷ []) rest = is_one_blank refl in
    let e = piece_one blank c.2 c.1 in
    let lf : TextPiece = record { kind = kind.Blank; bytes = 10 ∷ [] } in
    let g = subst (λ (x : TextPiece). FaultOf n (x ∷ ps) s) (sym (same_piece lf p e.0 e.1)) f in
    ⊎_elim (λ z. absurd z) (λ z. let h = fault_line ps (n + 1) s z in omega (arith, h)) g

nothing_behind : (ps : List TextPiece) → IsCutInto [] ps → (n : ℕ) (s : Refusal) → FaultOf n ps s → ⊥
nothing_behind ps c n s f = subst (λ (x : List TextPiece). FaultOf n x s) (cut_end ps c) f

-- What stands behind a fault stands no earlier.
after_fault : {k : PieceKind} {p b : List ℕ} → IsTextPiece k p b → (n : ℕ) (r : Refusal) → FaultBy (meaning k p) n r
    → (ps : List TextPiece) → IsCutInto b ps → (s : Refusal) → FaultOf (n + line_ends p) ps s → IsNoLater r s
after_fault (is_one_blank c) n r f ps cut s g = absurd f
after_fault (is_line_comment a e) n r f ps cut s g = absurd f
after_fault (is_block_comment w z) n r f ps cut s g = absurd f
after_fault (is_word c a e) n r f ps cut s g = absurd f
after_fault (is_decimal c a e h) n r f ps cut s g = absurd f
after_fault (is_hexadecimal q i a e) n r f ps cut s g = absurd f
after_fault (is_text w a) n r f ps cut s g = absurd f
after_fault (is_sign c) n r f ps cut s g = absurd f
after_fault (is_slash h) n r f ps cut s g = absurd f
after_fault (is_stray {b} c) n r f ps cut s g =
    let l = fault_line ps (n + line_ends (b ∷ [])) s g in subst (λ (x : Refusal). IsNoLater x s) (sym f) (o1_first n s (omega (arith, l)))
after_fault (is_unclosed_comment {w} z) n r f ps cut s g = absurd (nothing_behind ps cut (n + line_ends (47 ∷ 42 ∷ w)) s g)
after_fault (is_unclosed_text_lf {w} {rest} a) n r f ps cut s g =
    let l = below_lf rest ps cut (n + line_ends (34 ∷ w)) s g in subst (λ (x : Refusal). IsNoLater x s) (sym f) (inl (omega (arith, l)))
after_fault (is_unclosed_text_end {w} a) n r f ps cut s g = absurd (nothing_behind ps cut (n + line_ends (34 ∷ w)) s g)

-- The loop's invariant: every cut of the rest, which begins at this place on line n, goes on from the tokens so far to a cut of the text, with
-- the same faults.
pub record Completed (text : Bor (List ℕ)) (ts : List Token) (n place : ℕ) (ps : List TextPiece) : Type 0 where
  pub pieces : List TextPiece
  pub cut : IsCutInto text.now pieces
  pub tokens : tokens_at text 1 0 pieces ≡ ts ++ tokens_at text n place ps
  pub faults : (r : Refusal) → FaultOf 1 pieces r ↔ FaultOf n ps r

abbrev pub GoesOn : Bor (List ℕ) → ℕ → ℕ → List Token → Type 0
GoesOn text n place ts = (ps : List TextPiece) → IsCutInto (drop place text.now) ps → Completed text ts n place ps

-- the tokens in memory are those that the grammar sees
pub lexemes_at : (text : Bor (List ℕ)) (n place : ℕ) (ps : List TextPiece) → map lexeme (tokens_at text n place ps) ≡ tokens_of n ps
lexemes_at text n place [] = refl
lexemes_at text n place (p ∷ ps) = by (meaning p.kind p.bytes) (lexemes_at text (n + line_ends p.bytes) (place + length p.bytes) ps)
  where
    more : List Token
    more = tokens_at text (n + line_ends p.bytes) (place + length p.bytes) ps

    by : (m : Meaning) → map lexeme more ≡ tokens_of (n + line_ends p.bytes) ps
        → map lexeme (tokens_by m n (slice_at text place p.bytes) ++ more) ≡ lexemes_by m n p.bytes ++ tokens_of (n + line_ends p.bytes) ps
    by (IsToken k) e = ap (λ xs. record { kind = k; line = n; bytes = p.bytes } ∷ xs) e
    by Nothing e = e
    by (IsFault c) e = e

pub seen : (text : Bor (List ℕ)) (ts : List Token) → AreSlices text ts → AreTokens text.now (map lexeme ts)
seen text ts s = (s.0, s.1, ap (map lexeme) s.2 ∙ lexemes_at text 1 0 s.0)

-- One piece more.
same_faults : (m : Meaning) → IsNoFault m → (n : ℕ) (F : Type 0) (r : Refusal) → (FaultBy m n r ⊎ F) ↔ F
same_faults Nothing z n F r = (⊎_elim (λ f. absurd f) (λ f. f), inr)
same_faults (IsToken k) z n F r = (⊎_elim (λ f. absurd f) (λ f. f), inr)
same_faults (IsFault c) z n F r = absurd z

pub goes_further : (text : Bor (List ℕ)) (n place : ℕ) (ts : List Token) (k : PieceKind × ℕ) → GoesOn text n place ts → HasFront (drop place text.now) k
    → IsNoFault (front_meaning k (drop place text.now))
    → GoesOn text (n + line_ends (take k.1 (drop place text.now))) (place + k.1)
    (ts ++ tokens_by (front_meaning k (drop place text.now)) n (slice_at text place (take k.1 (drop place text.now))))
goes_further text n place ts k on s z = λ ps c.
    let rest : List ℕ = drop place text.now in
    let p : TextPiece = record { kind = k.0; bytes = take k.1 rest } in
    let first = tokens_by (front_meaning k rest) n (slice_at text place (take k.1 rest)) in
    let later = λ (m : ℕ). tokens_at text (n + line_ends (take k.1 rest)) (place + m) ps in
    let w = on (p ∷ ps) (drop k.1 rest, sym (take-append-drop k.1 rest), s.0, subst (λ (x : List ℕ). IsCutInto x ps) (sym (drop-drop k.1 place text.now)) c) in
    record {
      pieces = w.pieces;
      cut = w.cut;
      tokens = w.tokens ∙ ap (λ m. ts ++ (first ++ later m)) (length-take-le k.1 rest s.2) ∙ sym (append_assoc ts first (later k.1));
      faults = λ r.
          let f = w.faults r in
          let g = same_faults (front_meaning k rest) z n (FaultOf (n + line_ends (take k.1 rest)) ps r) r in
          (λ x. g.0 (f.0 x), λ x. f.1 (g.1 x));
    }

pub least : (text : Bor (List ℕ)) (n place : ℕ) (ts : List Token) (k : PieceKind × ℕ) → GoesOn text n place ts → HasFront (drop place text.now) k
    → (r : Refusal) → FaultBy (front_meaning k (drop place text.now)) n r → IsLeast (TextFault text.now) r
least text n place ts k on s r f =
    let rest : List ℕ = drop place text.now in
    let p : TextPiece = record { kind = k.0; bytes = take k.1 rest } in
    let c = cut_of (drop k.1 rest) in
    let w = on (p ∷ c.0) (drop k.1 rest, sym (take-append-drop k.1 rest), s.0, c.1) in
    record {
      is_fault = (w.pieces, w.cut, (w.faults r).1 (inl f));
      is_least = λ q g. ⊎_elim
          (λ h. same_place (front_meaning k rest) n r q f h)
          (λ h. after_fault s.0 n r f c.0 c.1 q h)
          ((w.faults q).0 (subst (λ (x : List TextPiece). FaultOf 1 x q) (cut_one g.0 w.pieces text.now g.1 w.cut) g.2));
    }
  where
    same_place : (m : Meaning) (n : ℕ) (r q : Refusal) → FaultBy m n r → FaultBy m n q → IsNoLater r q
    same_place Nothing n r q f g = absurd f
    same_place (IsToken k) n r q f g = absurd f
    same_place (IsFault c) n r q f g = let e : r ≡ q = cc in subst (λ (x : Refusal). IsNoLater r x) e (inr (refl, omega arith))

-- ---- the same, of the cutter

abbrev pub IsCutterOf : Bor (List ℕ) → Cutter → Type 0
IsCutterOf text c = (c.text ≡ text) × GoesOn text c.line c.place c.tokens.items

pub begun : (text : Bor (List ℕ)) (c : Cutter) → c.text ≡ text → c.place ≡ 0 → c.line ≡ 1 → c.tokens.items ≡ [] → IsCutterOf text c
begun text c same p l e = (
  same,
  λ ps cut.
      let whole : IsCutInto text.now ps = subst (λ (i : ℕ). IsCutInto (drop i text.now) ps) p cut in
      record {
        pieces = ps;
        cut = whole;
        tokens = sym (ap (λ (i : ℕ). tokens_at text 1 i ps) p) ∙ sym (ap (λ (i : ℕ). tokens_at text i c.place ps) l) ∙ sym (ap (λ (ts : List Token). ts ++ tokens_at text c.line c.place ps) e);
        faults = λ r. let same : FaultOf c.line ps r ≡ FaultOf 1 ps r = ap (λ (i : ℕ). FaultOf i ps r) l in (subst (λ (X : Type 0). X) (sym same), subst (λ (X : Type 0). X) same);
      },
)

pub goes : (text : Bor (List ℕ)) (c d : Cutter) → IsCutterOf text c → HasCut c d → IsCutterOf text d
goes text c d g h = (h.text ∙ g.0, moved)
  where
    on : GoesOn c.text c.line c.place c.tokens.items
    on = subst (λ (x : Bor (List ℕ)). GoesOn x c.line c.place c.tokens.items) (sym g.0) g.1

    further : GoesOn c.text (c.line + line_ends (take h.piece.1 (rest_of c))) (c.place + h.piece.1)
        (c.tokens.items ++ tokens_by (front_meaning h.piece (rest_of c)) c.line (slice_at c.text c.place (take h.piece.1 (rest_of c))))
    further = goes_further c.text c.line c.place c.tokens.items h.piece on h.begins h.no_fault

    moved : GoesOn text d.line d.place d.tokens.items
    moved =
        subst (λ (x : Bor (List ℕ)). GoesOn x d.line d.place d.tokens.items) g.0
        (subst (λ (n : ℕ). GoesOn c.text n d.place d.tokens.items) (sym h.line)
        (subst (λ (i : ℕ). GoesOn c.text (c.line + line_ends (take h.piece.1 (rest_of c))) i d.tokens.items) (sym h.place)
        (subst (λ (ts : List Token). GoesOn c.text (c.line + line_ends (take h.piece.1 (rest_of c))) (c.place + h.piece.1) ts) (sym h.tokens) further)))

pub within_next : (c d : Cutter) → HasCut c d → c.place ≤ length c.text.now → d.place ≤ length d.text.now
within_next c d h l =
    let rest = length-drop c.place c.text.now in
    let same = ap (λ (x : Bor (List ℕ)). length x.now) h.text in
    let place = h.place in
    let fits = h.begins.2 in
    omega (arith, rest, same, place, fits, l)

pub lines_next : (c d : Cutter) → HasCut c d → c.line ≤ c.place + 1 → d.line ≤ d.place + 1
lines_next c d h l =
    let ends = count_by-le-length (λ b. b == 10) (take h.piece.1 (rest_of c)) in
    let long = length-take-le h.piece.1 (rest_of c) h.begins.2 in
    let line = h.line in
    let place = h.place in
    omega (arith, ends, long, line, place, l)

pub stops : (text : Bor (List ℕ)) (c : Cutter) (e : BuildError) → IsCutterOf text c → IsStopped c e → ErrorIs (TextFault text.now) e
stops text c Memory g h = tt
stops text c (Refused r) g h = subst (λ (x : Bor (List ℕ)). IsLeast (TextFault x.now) r) g.0
    (least c.text c.line c.place c.tokens.items h.piece (subst (λ (x : Bor (List ℕ)). GoesOn x c.line c.place c.tokens.items) (sym g.0) g.1) h.begins r h.refused)

pub ends : (text : Bor (List ℕ)) (c : Cutter) → IsCutterOf text c → length c.text.now ≤ c.place → AreSlices text c.tokens.items × NoFault (TextFault text.now)
ends text c g l =
    let nothing : drop c.place text.now ≡ [] = drop_of_length-le text.now {i = c.place} (subst (λ (x : Bor (List ℕ)). length x.now ≤ c.place) g.0 l) in
    let w = g.1 [] nothing in (
      (w.pieces, w.cut, sym (append-nil c.tokens.items) ∙ sym w.tokens),
      λ r f. (w.faults r).0 (subst (λ (x : List TextPiece). FaultOf 1 x r) (cut_one f.0 w.pieces text.now f.1 w.cut) f.2),
    )

-- Pieces have a fault, or none.
pieces_judged : (ps : List TextPiece) (n : ℕ) → ((r : Refusal) × FaultOf n ps r) ⊎ NoFault (FaultOf n ps)
pieces_judged [] n = inr (λ r f. f)
pieces_judged (p ∷ ps) n = by_meaning (meaning p.kind p.bytes) (pieces_judged ps (n + line_ends p.bytes))
  where
    by_meaning : (m : Meaning) → ((r : Refusal) × FaultOf (n + line_ends p.bytes) ps r) ⊎ NoFault (FaultOf (n + line_ends p.bytes) ps)
        → ((r : Refusal) × (FaultBy m n r ⊎ FaultOf (n + line_ends p.bytes) ps r)) ⊎ NoFault (λ r. FaultBy m n r ⊎ FaultOf (n + line_ends p.bytes) ps r)
    by_meaning (IsFault c) rest = inl (record { part = Oil; line = n; code = c }, inl refl)
    by_meaning m (inl f) = inl (f.0, inr f.1)
    by_meaning Nothing (inr none) = inr (λ r f. ⊎_elim (λ x. x) (none r) f)
    by_meaning (IsToken k) (inr none) = inr (λ r f. ⊎_elim (λ x. x) (none r) f)

-- A text has a fault, or none.
pub text_judged : (t : List ℕ) → ((r : Refusal) × TextFault t r) ⊎ NoFault (TextFault t)
text_judged t =
    let c = cut_of t in
    ⊎_elim (λ f. inl (f.0, (c.0, c.1, f.1)))
    (λ none. inr (λ r f. none r (subst (λ (ps : List TextPiece). FaultOf 1 ps r) (cut_one f.0 c.0 t f.1 c.1) f.2)))
    (pieces_judged c.0 1)

pub tokens_some : (t : List ℕ) → (ts : List Lexeme) × AreTokens t ts
tokens_some t = let c = cut_of t in (tokens_of 1 c.0, (c.0, c.1, refl))
