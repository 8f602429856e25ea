-- Lengths of runs.
use Rattle.std.proofs.Common.{◌≡◌, ℕ, ◌+◌, ◌-◌, ◌<◌, ◌≤◌, Bool, true, false, List, [], ◌∷◌, ◌++◌, length, drop, take, cond, refl, ap, arith, ◌∙◌, subst, add-one, suc, ◌&&◌, not, ◌⊎◌, inl, inr, length-drop}
use Rattle.std.proofs.lemmas.Bool.{eqb-true, and_parts}
use Rattle.std.proofs.Math.Seq.{drop-cons}
use Rattle.std.proofs.Math.ListN.{drop_of_length-le}
use Rattle.std.proofs.lemmas.List.{take_all}
use Rattle.std.specs.List.{prefix_len}
use Rattle.std.specs.Prelude.{◌==◌}
use Rattle.oil_parse.specs.Pieces.{is_comment_end, EachPasses, IsRunEnd, HasNoCommentEnd}
use Rattle.oil_parse.specs.Front.{comment_length}

pub either : (a b : Bool) → (not a && not b) ≡ false → (a ≡ true) ⊎ (b ≡ true)
either true b h = inl refl
either false true h = inr refl
either false false h = cc

pub no_byte : (a : Bool) → (a && false) ≡ true → ⊥
no_byte true h = cc
no_byte false h = cc

pub comment_length_at : (xs : List ℕ) (i : ℕ) → i < length xs → comment_length (drop i xs) ≡ cond (is_comment_end (drop i xs)) 0 (1 + comment_length (drop (i + 1) xs))
unfolding comment_length
comment_length_at xs i h = rw (add-one, drop-cons xs i 0 h) refl

pub comment_length_end : (xs : List ℕ) (i : ℕ) → length xs ≤ i → comment_length (drop i xs) ≡ 0
unfolding comment_length
comment_length_end xs i h = rw (drop_of_length-le xs {i = i} h) refl

-- the slice from i on, as a slice's end is written
pub whole : (xs : List ℕ) (i : ℕ) → take (length xs - i) (drop i xs) ≡ drop i xs
whole xs i = take_all (length xs - i) (drop i xs) (omega (arith, length-drop i xs))

-- a run of w ends where the rest stops it
pub run_ends : (p : ℕ → Bool) (w r : List ℕ) → EachPasses p w → IsRunEnd p r → prefix_len p (w ++ r) ≡ length w
run_ends p [] [] a s = refl
run_ends p [] (b ∷ r) a s = rw s refl
run_ends p (b ∷ w) r a s = rw (a.0) (let ih = run_ends p w r a.1 s in omega (arith, ih))

pub run_front : (p : ℕ → Bool) (s : List ℕ) → EachPasses p (take (prefix_len p s) s) × IsRunEnd p (drop (prefix_len p s) s)
run_front p [] = (tt, tt)
run_front p (b ∷ s) =
    let ih = run_front p s in
    let P : Bool → Type 0 = λ v. p b ≡ v → EachPasses p (take (cond v (1 + prefix_len p s) 0) (b ∷ s)) × IsRunEnd p (drop (cond v (1 + prefix_len p s) 0) (b ∷ s)) in
    let e : 1 + prefix_len p s ≡ suc (prefix_len p s) = omega arith in
    elim (p b) as P [
      | true ↦ λ h. rw e ((h, ih.0), ih.1)
      | false ↦ λ h. (tt, h)
    ] refl

pub never_closes : (w : List ℕ) → HasNoCommentEnd w → comment_length w ≡ length w
unfolding comment_length
never_closes [] n = refl
never_closes (b ∷ w) n = rw (n.0) (let ih = never_closes w n.1 in omega (arith, ih))

-- a body whose first close stands at its end
pub closes_behind : (w r : List ℕ) → HasNoCommentEnd (w ++ 42 ∷ []) → comment_length (w ++ 42 ∷ 47 ∷ r) ≡ length w
unfolding comment_length
closes_behind [] r n = refl
closes_behind (b ∷ []) r n = rw (n.0) refl
closes_behind (b ∷ c ∷ w) r n = let ih = closes_behind (c ∷ w) r n.1 in let first : is_comment_end (b ∷ c ∷ (w ++ 42 ∷ 47 ∷ r)) ≡ false = n.0 in rw first (omega (arith, ih))

-- where the length is that of the whole text, nothing closes it
pub open_all : (s : List ℕ) → comment_length s ≡ length s → HasNoCommentEnd s
unfolding comment_length
open_all [] e = tt
open_all (b ∷ s) e =
    let P : Bool → Type 0 = λ v. is_comment_end (b ∷ s) ≡ v → cond v 0 (1 + comment_length s) ≡ length (b ∷ s) → (is_comment_end (b ∷ s) ≡ false) × HasNoCommentEnd s in
    elim (is_comment_end (b ∷ s)) as P [
      | true ↦ λ h f. absurd (omega arith)
      | false ↦ λ h f. (h, open_all s (omega arith))
    ] refl e

pub comment_length_le : (s : List ℕ) → comment_length s ≤ length s
unfolding comment_length
comment_length_le [] = omega arith
comment_length_le (b ∷ s) =
    let ih = comment_length_le s in
    let P : Bool → Type 0 = λ v. cond v 0 (1 + comment_length s) ≤ length (b ∷ s) in
    elim (is_comment_end (b ∷ s)) as P [ true ↦ omega arith | false ↦ omega (arith, ih) ]

pub comment_length_stop : (xs : List ℕ) (i : ℕ) → i < length xs → is_comment_end (drop i xs) ≡ true → comment_length (drop i xs) ≡ 0
comment_length_stop xs i h t = comment_length_at xs i h ∙ ap (λ v. cond v 0 (1 + comment_length (drop (i + 1) xs))) t

pub comment_length_step : (xs : List ℕ) (i : ℕ) → i < length xs → is_comment_end (drop i xs) ≡ false → comment_length (drop i xs) ≡ 1 + comment_length (drop (i + 1) xs)
comment_length_step xs i h t = comment_length_at xs i h ∙ ap (λ v. cond v 0 (1 + comment_length (drop (i + 1) xs))) t

-- a text that closes at once
pub closes_is : (s : List ℕ) → is_comment_end s ≡ true → (r : List ℕ) × (s ≡ 42 ∷ 47 ∷ r)
closes_is [] h = cc
closes_is (a ∷ []) h = absurd (no_byte (a == 42) h)
closes_is (a ∷ b ∷ r) h =
    let p = and_parts (a == 42) (b == 47) h in
    (r, ap (λ x. x ∷ b ∷ r) (eqb-true a 42 p.0) ∙ ap (λ x. 42 ∷ x ∷ r) (eqb-true b 47 p.1))

where_it_stands : (b : ℕ) (w r : List ℕ) → is_comment_end (b ∷ (w ++ 42 ∷ 47 ∷ r)) ≡ false → is_comment_end (b ∷ (w ++ 42 ∷ [])) ≡ false
where_it_stands b [] r h = h
where_it_stands b (c ∷ w) r h = h

-- the text up to its first close
abbrev pub Opened : List ℕ → ℕ → Type 0
Opened s n = (w r : List ℕ) × (s ≡ w ++ 42 ∷ 47 ∷ r) × (n ≡ length w) × HasNoCommentEnd (w ++ 42 ∷ [])

more_opened : (b : ℕ) (s : List ℕ) (n : ℕ) → is_comment_end (b ∷ s) ≡ false → Opened s n → Opened (b ∷ s) (1 + n)
more_opened b s n h o =
    let f = subst (λ (x : List ℕ). is_comment_end (b ∷ x) ≡ false) o.2 h in
    let e = o.3 in
    (b ∷ o.0, o.1, ap (λ x. b ∷ x) o.2, omega (arith, e), (where_it_stands b o.0 o.1 f, o.4))

pub open_front : (s : List ℕ) → comment_length s < length s → Opened s (comment_length s)
unfolding comment_length
open_front [] h = absurd (omega arith)
open_front (b ∷ s) h =
    let P : Bool → Type 0 = λ v. is_comment_end (b ∷ s) ≡ v → cond v 0 (1 + comment_length s) < length (b ∷ s) → Opened (b ∷ s) (cond v 0 (1 + comment_length s)) in
    elim (is_comment_end (b ∷ s)) as P [
      | true ↦ λ t f. let c = closes_is (b ∷ s) t in ([], c.0, c.1, refl, (refl, tt))
      | false ↦ λ t f. more_opened b s (comment_length s) t (open_front s (omega arith))
    ] refl h
