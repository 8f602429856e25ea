-- The shape of a statement, as the format draws it, is what the reader finds.
use Rattle.std.proofs.Common.{◌≡◌, ℕ, ◌+◌, ◌<◌, ◌≤◌, Bool, true, false, not, ◌&&◌, ◌||◌, cond, List, [], ◌∷◌, ◌++◌, map, length, take, drop, refl, ap, arith, sym, ◌∙◌, subst, suc, zero, length-append}
use Rattle.std.specs.Prelude.{◌==◌}
use Rattle.std.specs.Char.{is_ascii_alphabetic}
use Rattle.std.specs.List.{list_all, list_any, slice_split, prefix_len, onto_first, position_or_len}
use Rattle.std.proofs.lemmas.Bool.{eqb-true, and_parts, or_parts}
use Rattle.std.proofs.lemmas.List.{take-append-drop}
use Rattle.std.proofs.lemmas.List.Folds.{length-prefix_len}
use Rattle.std.proofs.lemmas.List.Splits.{slice_split_first}
use Rattle.std.proofs.Math.Seq.{take-append_seam, drop-append_seam}
use Rattle.sloth_base.specs.ImageRange.{continues_word}
use Rattle.asm_lines.specs.declared.source_line.SourceLine.{SourceLine}
use Rattle.asm_lines.specs.declared.source_line.SourceLine.TheVariants.{Shapeless}
use Rattle.text_pieces.specs.Bytes.{is_byte_of}
use Rattle.asm_lines.specs.Bytes.{is_blank, is_shown, is_letter, word_of, trim}
use Rattle.asm_lines.specs.Lines.{operands_of}
use Rattle.asm_lines.specs.Table.{mnemonic_of}
use Rattle.text_pieces.specs.Bytes.{before, behind}
use Rattle.asm_lines.specs.SourceLines.{stands_apart, begins_statement, has_empty, known_statement, statement, statement_of}
use Rattle.asm_lines.specs.Grammar.{IsRemains, is_whole, is_commented, IsOperands, is_last, is_more, IsTail, is_nothing, is_something, IsShape, is_shapeless}
use Rattle.text_pieces.proofs.Cuts.{stops, run_length, run_front}
use Rattle.asm_lines.proofs.Trims.{trim_is, trimmed}
use Rattle.text_pieces.proofs.Cuts.{has_here, before_is, behind_is, cut_there, has_some}

split_none : (t : List ℕ) → is_byte_of 44 t ≡ false → slice_split (λ b. b == 44) t ≡ t ∷ []
unfolding is_byte_of
split_none [] h = refl
split_none (b ∷ t) h = let w = or_parts (b == 44) (list_any (λ x. x == 44) t) h in rw (w.0) (ap (onto_first b) (split_none t w.1))

split_more : (x y : List ℕ) → is_byte_of 44 x ≡ false → slice_split (λ b. b == 44) (x ++ 44 ∷ y) ≡ x ∷ slice_split (λ b. b == 44) y
split_more x y h =
    let t = x ++ 44 ∷ y in
    slice_split_first (λ b. b == 44) t 0 (has_some 44 t (has_here 44 x y refl))
    ∙ (ap (λ v. v ∷ slice_split (λ b. b == 44) (behind 44 t)) (before_is 44 x y refl h) ∙ ap (λ v. x ∷ slice_split (λ b. b == 44) v) (behind_is 44 x y refl h))

pub operands_made : (t : List ℕ) (ts : List (List ℕ)) → IsOperands t ts → map trim (slice_split (λ b. b == 44) t) ≡ ts
operands_made t ts (is_last part x h w) = ap (map trim) (split_none part h) ∙ ap (λ v. v ∷ []) (trim_is part x w)
operands_made t ts (is_more part x rest us h w more) =
    let ih = operands_made rest us more in
    ap (map trim) (split_more part rest h) ∙ (ap (λ v. v ∷ map trim (slice_split (λ b. b == 44) rest)) (trim_is part x w) ∙ ap (λ v. x ∷ v) ih)

-- nothing of what stands before the first byte c is c
before_lacks : (c : ℕ) (t : List ℕ) → is_byte_of c (before c t) ≡ false
unfolding is_byte_of
before_lacks c [] = refl
before_lacks c (b ∷ t) =
    let ih = before_lacks c t in
    let e : 1 + position_or_len (λ x. x == c) t ≡ suc (position_or_len (λ x. x == c) t) = omega arith in
    let P : Bool → Type 0 = λ v. (b == c) ≡ v → is_byte_of c (take (cond (not v) (1 + position_or_len (λ x. x == c) t) 0) (b ∷ t)) ≡ false in
    elim (b == c) as P [ true ↦ λ h. refl | false ↦ λ h. rw e (rw h ih) ] refl

operands_step : (t : List ℕ) → ((y : List ℕ) → length y < length t → IsOperands y (map trim (slice_split (λ b. b == 44) y))) → IsOperands t (map trim (slice_split (λ b. b == 44) t))
operands_step t ih =
    let x = before 44 t in
    let y = behind 44 t in
    let P : Bool → Type 0 = λ v. is_byte_of 44 t ≡ v → IsOperands t (map trim (slice_split (λ b. b == 44) t)) in
    elim (is_byte_of 44 t) as P [
      | true ↦ λ h.
          let e = cut_there 44 t h in
          let k = before_lacks 44 t in
          let m = ap length e in
          let l = length-append x (44 ∷ y) in
          let rest = ih y (omega (arith, m, l)) in
          subst (λ (v : List ℕ). IsOperands v (map trim (slice_split (λ b. b == 44) v))) (sym e)
          (subst (λ (v : List (List ℕ)). IsOperands (x ++ 44 ∷ y) (map trim v)) (sym (split_more x y k)) (is_more x (trim x) y (map trim (slice_split (λ b. b == 44) y)) k (trimmed x) rest))
      | false ↦ λ h. subst (λ (y : List (List ℕ)). IsOperands t (map trim y)) (sym (split_none t h)) (is_last t (trim t) h (trimmed t))
    ] refl

operands_by : (n : ℕ) (t : List ℕ) → length t ≤ n → IsOperands t (map trim (slice_split (λ b. b == 44) t))
operands_by zero t l = operands_step t (λ y m. absurd (omega arith))
operands_by (suc n) t l = operands_step t (λ y m. operands_by n y (omega arith))

pub operands_read : (t : List ℕ) → IsOperands t (map trim (slice_split (λ b. b == 44) t))
operands_read t = operands_by (length t) t (omega arith)

before_all : (c : ℕ) (t : List ℕ) → is_byte_of c t ≡ false → before c t ≡ t
unfolding is_byte_of
before_all c [] h = refl
before_all c (b ∷ t) h =
    let w = or_parts (b == c) (list_any (λ x. x == c) t) h in
    let e : 1 + position_or_len (λ x. x == c) t ≡ suc (position_or_len (λ x. x == c) t) = omega arith in
    rw (w.0) (rw e (ap (λ y. b ∷ y) (before_all c t w.1)))

pub remains_made : (line x : List ℕ) → IsRemains line x → trim (before 35 line) ≡ x
remains_made line x (is_whole c y h w) = ap trim (before_all 35 c h) ∙ trim_is c y w
remains_made line x (is_commented c comment y h w) = ap trim (before_is 35 c comment refl h) ∙ trim_is c y w

pub remains_read : (line : List ℕ) → IsRemains line (trim (before 35 line))
remains_read line =
    let P : Bool → Type 0 = λ v. is_byte_of 35 line ≡ v → IsRemains line (trim (before 35 line)) in
    elim (is_byte_of 35 line) as P [
      | true ↦ λ h. subst (λ (v : List ℕ). IsRemains v (trim (before 35 line))) (sym (cut_there 35 line h))
          (is_commented (before 35 line) (behind 35 line) (trim (before 35 line)) (before_lacks 35 line) (trimmed (before 35 line)))
      | false ↦ λ h. subst (λ (v : List ℕ). IsRemains line (trim v)) (sym (before_all 35 line h)) (is_whole line (trim line) h (trimmed line))
    ] refl

operands_some : (b : ℕ) (r : List ℕ) → operands_of (b ∷ r) ≡ map trim (slice_split (λ c. c == 44) (b ∷ r))
unfolding operands_of
operands_some b r =
    let all = map trim (slice_split (λ c. c == 44) (b ∷ r)) in
    let P : Bool → Type 0 = λ v. (length (b ∷ r) == 0) ≡ v → cond v [] all ≡ all in
    elim (length (b ∷ r) == 0) as P [ true ↦ λ h. let e = eqb-true (length (b ∷ r)) 0 h in absurd (omega (arith, e)) | false ↦ λ h. refl ] refl

blank_stops : (b : ℕ) → is_blank b ≡ true → continues_word b ≡ false
blank_stops b h =
    let P : Bool → Type 0 = λ v. (b == 32) ≡ v → (v || (b == 9)) ≡ true → continues_word b ≡ false in
    elim (b == 32) as P [
      | true ↦ λ e g. ap continues_word (eqb-true b 32 e)
      | false ↦ λ e g. ap continues_word (eqb-true b 9 g)
    ] refl h

tail_stops : (rest : List ℕ) (ts : List (List ℕ)) → IsTail rest ts
    → (stops continues_word rest ≡ true) × (stands_apart rest ≡ true) × (operands_of rest ≡ ts) × (has_empty ts ≡ false)
unfolding operands_of has_empty
tail_stops rest ts is_nothing = (refl, refl, refl, refl)
tail_stops rest ts (is_something b r us h w e) = (ap not (blank_stops b h), h, operands_some b r ∙ operands_made (b ∷ r) us w, e)

letter_on : (w rest : List ℕ) → is_letter w ≡ true → is_letter (w ++ rest) ≡ true
letter_on [] rest h = cc
letter_on (b ∷ w) rest h = h

statement_by : (t w rest : List ℕ) (ts : List (List ℕ)) → word_of t ≡ w → drop (length w) t ≡ rest → begins_statement t rest ≡ true → operands_of rest ≡ ts → has_empty ts ≡ false
    → statement_of t ≡ known_statement (mnemonic_of w) ts
unfolding statement_of
statement_by t w rest ts e f g h k =
    let F : List ℕ → List ℕ → SourceLine = λ v r. cond (begins_statement t r) (statement v (operands_of r)) Shapeless in
    ap (λ v. F v (drop (length v) t)) e ∙ (ap (F w) f ∙ rw g (ap (statement w) h ∙ rw k refl))

pub shape_made : (t word : List ℕ) (ts : List (List ℕ)) → IsShape t word ts → statement_of t ≡ known_statement (mnemonic_of word) ts
unfolding begins_statement
shape_made t word ts s =
    let tail = tail_stops s.rest ts s.tail in
    let n = run_length continues_word word s.rest s.is_word tail.0 in
    let w : word_of t ≡ word = ap word_of s.text ∙ (ap (λ k. take k (word ++ s.rest)) n ∙ take-append_seam word s.rest) in
    let r : drop (length word) t ≡ s.rest = ap (drop (length word)) s.text ∙ drop-append_seam word s.rest in
    let l : is_letter t ≡ true = ap is_letter s.text ∙ letter_on word s.rest s.letter in
    let b : begins_statement t s.rest ≡ true = rw (s.shown, l, tail.1) refl in
    statement_by t word s.rest ts w r b tail.2 tail.3

letter_word : (t : List ℕ) → is_letter t ≡ true → is_letter (word_of t) ≡ true
letter_word [] h = cc
letter_word (b ∷ t) h =
    let c : continues_word b ≡ true = letter_continues b h in
    let e : 1 + prefix_len continues_word t ≡ suc (prefix_len continues_word t) = omega arith in
    rw c (rw e h)
  where
    letter_continues : (b : ℕ) → is_ascii_alphabetic b ≡ true → continues_word b ≡ true
    letter_continues b h = grind arith

nothing_read : IsTail [] (operands_of [])
unfolding operands_of
nothing_read = is_nothing

tail_read : (rest : List ℕ) → stands_apart rest ≡ true → has_empty (operands_of rest) ≡ false → IsTail rest (operands_of rest)
tail_read [] s e = nothing_read
tail_read (b ∷ r) s e =
    is_something b r (operands_of (b ∷ r)) s (subst (λ (v : List (List ℕ)). IsOperands (b ∷ r) v) (sym (operands_some b r)) (operands_read (b ∷ r))) e

pub shape_read : (t : List ℕ) (s : SourceLine) → statement_of t ≡ s → is_shapeless s ≡ false → (word : List ℕ) × (ts : List (List ℕ)) × IsShape t word ts × (known_statement (mnemonic_of word) ts ≡ s)
unfolding statement_of begins_statement
shape_read t s g h =
    let w = word_of t in
    let r = drop (length w) t in
    let ts = operands_of r in
    let R : Type 0 = (word : List ℕ) × (us : List (List ℕ)) × IsShape t word us × (known_statement (mnemonic_of word) us ≡ s) in
    let wrong : Shapeless ≡ s → R = λ e. let x : is_shapeless Shapeless ≡ false = ap is_shapeless e ∙ h in cc in
    let Q : Bool → Type 0 = λ v. has_empty ts ≡ v → cond v Shapeless (known_statement (mnemonic_of w) ts) ≡ s → begins_statement t r ≡ true → R in
    let P : Bool → Type 0 = λ v. begins_statement t r ≡ v → cond v (statement w ts) Shapeless ≡ s → R in
    elim (begins_statement t r) as P [
      | true ↦ λ b k. elim (has_empty ts) as Q [
        | true ↦ λ e m b. wrong m
        | false ↦ λ e m b.
            let x = and_parts (list_all is_shown t) (is_letter t && stands_apart r) b in
            let y = and_parts (is_letter t) (stands_apart r) x.1 in
            let text : t ≡ w ++ r = sym (take-append-drop (prefix_len continues_word t) t) ∙ ap (λ n. w ++ drop n t) (sym (length-prefix_len continues_word t)) in
            let shape : IsShape t w ts = record {
              rest = r;
              shown = x.0;
              letter = letter_word t y.0;
              is_word = (run_front continues_word t).0;
              text = text;
              tail = tail_read r y.1 e;
            } in
            (w, ts, shape, m)
      ] refl k b
      | false ↦ λ b k. wrong k
    ] refl g
