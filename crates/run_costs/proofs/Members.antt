-- Numbers that stand in a list.
use Rattle.std.proofs.Common.{◌≡◌, ℕ, zero, suc, ◌+◌, ◌<◌, ◌⊎◌, inl, inr, Bool, true, false, ◌||◌, List, [], ◌∷◌, ◌++◌, length, get_or, take, refl, ap, sym, ◌∙◌, arith, ⊎_elim}
use Rattle.std.specs.Prelude.{◌==◌}
use Rattle.std.proofs.lemmas.Bool.{eq-eqb, eqb-true, or_cases, false≢true}
use Rattle.std.proofs.Math.Seq.{take-suc}
use Rattle.code_rules.specs.Code.{is_in}

pub member : (xs : List ℕ) (k : ℕ) → k < length xs → is_in (get_or xs k 0) xs ≡ true
member [] k lt = absurd (omega (arith, lt))
member (x ∷ xs) zero lt = ap (λ b. b || is_in x xs) (eq-eqb x x refl)
member (x ∷ xs) (suc k) lt = later (x == get_or xs k 0) (is_in (get_or xs k 0) xs) (member xs k (omega (arith, lt)))
  where
    later : (a b : Bool) → b ≡ true → (a || b) ≡ true
    later true b e = refl
    later false b e = e

front_or_end : (i x : ℕ) (xs : List ℕ) → is_in i (xs ++ x ∷ []) ≡ true → (is_in i xs ≡ true) ⊎ (x ≡ i)
front_or_end i x [] h = ⊎_elim (λ t. inr (eqb-true x i t)) (λ f. absurd (false≢true f)) (or_cases (x == i) false h)
front_or_end i x (y ∷ xs) h = by (y == i) h (front_or_end i x xs)
  where
    by : (b : Bool) → (b || is_in i (xs ++ x ∷ [])) ≡ true → (is_in i (xs ++ x ∷ []) ≡ true → (is_in i xs ≡ true) ⊎ (x ≡ i)) → ((b || is_in i xs) ≡ true) ⊎ (x ≡ i)
    by true h again = inl refl
    by false h again = again h

pub one_more : (xs : List ℕ) (k j : ℕ) → k < length xs → is_in j (take (k + 1) xs) ≡ true → (is_in j (take k xs) ≡ true) ⊎ (get_or xs k 0 ≡ j)
one_more xs k j lt h =
    let e : k + 1 ≡ suc k = omega arith in
    front_or_end j (get_or xs k 0) (take k xs) (sym (ap (is_in j) (ap (λ n. take n xs) e ∙ take-suc xs k 0 lt)) ∙ h)
