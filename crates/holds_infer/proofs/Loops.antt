-- A text is written part by part.
use Rattle.std.proofs.Common.{◌≡◌, ℕ, zero, suc, ◌+◌, ◌<◌, ◌≤◌, Bool, true, false, List, [], ◌∷◌, ◌++◌, length, map, drop, get_or, cond, refl, sym, ap, ◌∙◌, arith, ⊎_elim, append_assoc, append-nil}
use Rattle.std.specs.Prelude.{◌==◌}
use Rattle.std.specs.List.{join_with_byte}
use Rattle.std.proofs.lemmas.Bool.{eqb-true, eq-eqb, cases_eq}
use Rattle.std.proofs.lemmas.List.{drop_more, length-drop}
use Rattle.sloth_base.specs.declared.config.Config.{Config}
use Rattle.asm_lines.specs.declared.source_line.SourceLine.{SourceLine}
use Rattle.text_pieces.specs.Lines.{line_of, without_returns}
use Rattle.asm_lines.specs.SourceLines.{source_line}
use Rattle.asm_scopes.specs.Statements.{is_label}
use Rattle.holds_infer.specs.Relabel.{first_list, other_lists}
use Rattle.holds_infer.specs.FilledText.{filled_part, lists_behind, filled_parts}

first_at : (hs : List (List ℕ)) (k : ℕ) → first_list (drop k hs) ≡ get_or hs k []
first_at [] zero = refl
first_at [] (suc k) = refl
first_at (x ∷ hs) zero = refl
first_at (x ∷ hs) (suc k) = first_at hs k

others_at : (hs : List (List ℕ)) (k : ℕ) → other_lists (drop k hs) ≡ drop (suc k) hs
others_at [] zero = refl
others_at [] (suc k) = refl
others_at (x ∷ hs) zero = refl
others_at (x ∷ hs) (suc k) = others_at hs k

behind_at : (l : SourceLine) (hs : List (List ℕ)) (k : ℕ) → lists_behind l (drop k hs) ≡ drop (cond (is_label l) (k + 1) k) hs
behind_at l hs k = by (is_label l)
  where
    by : (b : Bool) → cond b (other_lists (drop k hs)) (drop k hs) ≡ drop (cond b (k + 1) k) hs
    by true = let e : suc k ≡ k + 1 = omega arith in others_at hs k ∙ ap (λ n. drop n hs) e
    by false = refl

not_zero : (n : ℕ) → (suc n == 0) ≡ false
not_zero n = by (suc n == 0) refl
  where
    by : (b : Bool) → (suc n == 0) ≡ b → (suc n == 0) ≡ false
    by true e = let z = eqb-true (suc n) 0 e in absurd (omega (arith, z))
    by false e = e

joined : (config : Config) (hs ps : List (List ℕ)) (x : List ℕ)
    → join_with_byte 10 (x ∷ filled_parts config hs ps) ≡ (x ++ cond (length ps == 0) [] (10 ∷ [])) ++ join_with_byte 10 (filled_parts config hs ps)
joined config hs [] x = sym (append-nil (x ++ []) ∙ append-nil x)
joined config hs (p ∷ ps) x =
    sym (ap (λ b. (x ++ cond b [] (10 ∷ [])) ++ join_with_byte 10 (filled_parts config hs (p ∷ ps))) (not_zero (length ps))
    ∙ append_assoc x (10 ∷ []) (join_with_byte 10 (filled_parts config hs (p ∷ ps))))

-- a part is written, with the list of label k where its line is a label
pub record Step (config : Config) (hs ps : List (List ℕ)) (n k : ℕ) (l : SourceLine) (last : Bool) (p out new : List ℕ) : Type 0 where
  pub inside : n < length ps
  pub part : p ≡ get_or ps n []
  pub line : l ≡ source_line (line_of last p)
  pub is_last : last ≡ (length (drop (n + 1) ps) == 0)
  pub grown : new ≡ out ++ (filled_part config l last (get_or hs k []) p ++ cond last [] (10 ∷ []))

pub written_on : (config : Config) (hs ps : List (List ℕ)) (n k : ℕ) (l : SourceLine) (last : Bool) (p out new whole : List ℕ) → Step config hs ps n k l last p out new
    → out ++ join_with_byte 10 (filled_parts config (drop k hs) (drop n ps)) ≡ whole
    → new ++ join_with_byte 10 (filled_parts config (drop (cond (is_label l) (k + 1) k) hs) (drop (n + 1) ps)) ≡ whole
written_on config hs ps n k l last p out new whole s e =
    let rest = drop (n + 1) ps in
    let m = source_line (line_of (length rest == 0) p) in
    let x = filled_part config l last (get_or hs k []) p in
    let line : m ≡ l = ap (λ b. source_line (line_of b p)) (sym s.is_last) ∙ sym s.line in
    let tail = join_with_byte 10 (filled_parts config (drop (cond (is_label l) (k + 1) k) hs) rest) in
    let cut : drop n ps ≡ p ∷ rest = drop_more ps n [] s.inside ∙ ap (λ y. y ∷ rest) (sym s.part) in
    let same : filled_part config m (length rest == 0) (first_list (drop k hs)) p ≡ x =
    ap (λ y. filled_part config y (length rest == 0) (first_list (drop k hs)) p) line
    ∙ ap (λ b. filled_part config l b (first_list (drop k hs)) p) (sym s.is_last)
    ∙ ap (λ h. filled_part config l last h p) (first_at hs k) in
    let behind : lists_behind m (drop k hs) ≡ drop (cond (is_label l) (k + 1) k) hs = ap (λ y. lists_behind y (drop k hs)) line ∙ behind_at l hs k in
    ap (λ y. y ++ tail) s.grown
    ∙ append_assoc out (x ++ cond last [] (10 ∷ [])) tail
    ∙ ap (λ b. out ++ ((x ++ cond b [] (10 ∷ [])) ++ tail)) s.is_last
    ∙ ap (λ y. out ++ y) (sym (joined config (drop (cond (is_label l) (k + 1) k) hs) rest x))
    ∙ ap (λ h. out ++ join_with_byte 10 (x ∷ filled_parts config h rest)) (sym behind)
    ∙ ap (λ y. out ++ join_with_byte 10 (y ∷ filled_parts config (lists_behind m (drop k hs)) rest)) (sym same)
    ∙ ap (λ q. out ++ join_with_byte 10 (filled_parts config (drop k hs) q)) (sym cut)
    ∙ e

-- ---- the lines

pub count_lines : (ps : List (List ℕ)) → length (map source_line (without_returns ps)) ≡ length ps
count_lines [] = refl
count_lines (p ∷ ps) = let n = count_lines ps in omega (arith, n)

pub line_at : (ps : List (List ℕ)) (n : ℕ) (d : SourceLine) → n < length ps
    → get_or (map source_line (without_returns ps)) n d ≡ source_line (line_of (length (drop (n + 1) ps) == 0) (get_or ps n []))
line_at [] n d l = absurd (omega (arith, l))
line_at (p ∷ ps) zero d l = let e : 0 + 1 ≡ suc 0 = omega arith in ap (λ k. source_line (line_of (length (drop k (p ∷ ps)) == 0) p)) (sym e)
line_at (p ∷ ps) (suc n) d l =
    let e : suc n + 1 ≡ suc (n + 1) = omega arith in
    line_at ps n d (omega (arith, l)) ∙ ap (λ k. source_line (line_of (length (drop k (p ∷ ps)) == 0) (get_or ps n []))) (sym e)

pub last_at : (ps : List (List ℕ)) (n : ℕ) → n < length ps → (n + 1 == length ps) ≡ (length (drop (n + 1) ps) == 0)
last_at ps n l = ⊎_elim
    (λ e. eq-eqb (n + 1) (length ps) e ∙ sym (eq-eqb (length (drop (n + 1) ps)) 0 (let d = length-drop (n + 1) ps in omega (arith, d, e))))
    (λ ne. by (n + 1 == length ps) (length (drop (n + 1) ps) == 0) refl refl ne)
    (cases_eq (n + 1) (length ps))
  where
    by : (a b : Bool) → (n + 1 == length ps) ≡ a → (length (drop (n + 1) ps) == 0) ≡ b → (n + 1 ≡ length ps → ⊥) → (n + 1 == length ps) ≡ (length (drop (n + 1) ps) == 0)
    by true b e f ne = absurd (ne (eqb-true (n + 1) (length ps) e))
    by false false e f ne = e ∙ sym f
    by false true e f ne = let z = eqb-true (length (drop (n + 1) ps)) 0 f in let d = length-drop (n + 1) ps in absurd (ne (omega (arith, z, d, l)))

pub few_behind : (b : Bool) (k n : ℕ) → k ≤ n → cond b (k + 1) k ≤ n + 1
few_behind true k n l = omega (arith, l)
few_behind false k n l = omega (arith, l)
