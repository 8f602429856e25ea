-- The order of pairs by lines, then by tasks.
use Rattle.std.proofs.Common.{◌≡◌, ℕ, ◌<◌, ◌≤◌, ◌⊎◌, inl, inr, Bool, true, false, cond, refl, sym, ap, ◌∙◌, arith}
use Rattle.std.specs.Prelude.{◌==◌, not, ltb}
use Rattle.std.proofs.lemmas.Bool.{cases_eq, ltb-true, ltb-false, eq-eqb, ne_eqb}
use Rattle.shares_text.specs.declared.open_pairs.OpenPair.{OpenPair}
use Rattle.shares_text.specs.Verdicts.{is_before}

-- ---- two numbers, then what follows

abbrev Less : (a b : ℕ) → Type 0 → Type 0
Less a b R = (a < b) ⊎ ((a ≡ b) × R)

abbrev test : (a b : ℕ) → Bool → Bool
test a b rest = cond (not (a == b)) (ltb a b) rest

same_test : (a b : ℕ) (rest : Bool) → a ≡ b → test a b rest ≡ rest
same_test a b rest e = ap (λ x. cond (not x) (ltb a b) rest) (eq-eqb a b e)

other_test : (a b : ℕ) (rest : Bool) → (a ≡ b → ⊥) → test a b rest ≡ ltb a b
other_test a b rest n = ap (λ x. cond (not x) (ltb a b) rest) (ne_eqb a b n)

when_true : (a b : ℕ) (rest : Bool) (R : Type 0) → (rest ≡ true → R) → test a b rest ≡ true → Less a b R
when_true a b rest R f h = by (cases_eq a b)
  where
    by : (a ≡ b) ⊎ (a ≡ b → ⊥) → Less a b R
    by (inl e) = inr (e, f (sym (same_test a b rest e) ∙ h))
    by (inr n) = inl (ltb-true a b (sym (other_test a b rest n) ∙ h))

when_false : (a b : ℕ) (rest : Bool) (R : Type 0) → (rest ≡ false → R) → test a b rest ≡ false → Less b a R
when_false a b rest R f h = by (cases_eq a b)
  where
    by : (a ≡ b) ⊎ (a ≡ b → ⊥) → Less b a R
    by (inl e) = inr (sym e, f (sym (same_test a b rest e) ∙ h))
    by (inr n) = let le = ltb-false a b (sym (other_test a b rest n) ∙ h) in inl (omega (arith, le, n))

not_less : (a b : ℕ) → b ≤ a → ltb a b ≡ false
not_less a b le = by (ltb a b) refl
  where
    by : (t : Bool) → ltb a b ≡ t → ltb a b ≡ false
    by false e = e
    by true e = let lt = ltb-true a b e in absurd (omega (arith, le, lt))

makes_false : (a b : ℕ) (rest : Bool) (R : Type 0) → (R → rest ≡ false) → Less b a R → test a b rest ≡ false
makes_false a b rest R f (inl lt) = other_test a b rest (λ e. let same = e in absurd (omega (arith, lt, same))) ∙ not_less a b (omega (arith, lt))
makes_false a b rest R f (inr h) = same_test a b rest (sym h.0) ∙ f h.1

less_trans : (a b c : ℕ) (P Q R : Type 0) → (P → Q → R) → Less a b P → Less b c Q → Less a c R
less_trans a b c P Q R f (inl x) (inl y) = inl (omega (arith, x, y))
less_trans a b c P Q R f (inl x) (inr y) = let e = y.0 in inl (omega (arith, x, e))
less_trans a b c P Q R f (inr x) (inl y) = let e = x.0 in inl (omega (arith, e, y))
less_trans a b c P Q R f (inr x) (inr y) = inr (x.0 ∙ y.0, f x.1 y.1)

-- ---- pairs

-- by the lines, then by the numbers of the tasks, a pair is the other or stands before it
abbrev pub IsNoLater : (one other : OpenPair) → Type 0
IsNoLater p q = Less p.low_line q.low_line (Less p.high_line q.high_line (Less p.low q.low (p.high ≤ q.high)))

pub no_later : (p q : OpenPair) → is_before q p ≡ false → IsNoLater p q
no_later p q =
    when_false q.low_line p.low_line _ _
    (when_false q.high_line p.high_line _ _ (when_false q.low p.low _ _ (ltb-false q.high p.high)))

pub is_no_later : (p q : OpenPair) → IsNoLater p q → is_before q p ≡ false
is_no_later p q =
    makes_false q.low_line p.low_line _ _
    (makes_false q.high_line p.high_line _ _ (makes_false q.low p.low _ _ (not_less q.high p.high)))

pub earlier : (p q : OpenPair) → is_before p q ≡ true → IsNoLater p q
earlier p q =
    when_true p.low_line q.low_line _ _
    (when_true p.high_line q.high_line _ _ (when_true p.low q.low _ _ (λ e. let lt = ltb-true p.high q.high e in omega (arith, lt))))

pub no_later_trans : (p q r : OpenPair) → IsNoLater p q → IsNoLater q r → IsNoLater p r
no_later_trans p q r =
    less_trans p.low_line q.low_line r.low_line _ _ _
    (less_trans p.high_line q.high_line r.high_line _ _ _ (less_trans p.low q.low r.low _ _ _ (λ a b. omega (arith, a, b))))

pub no_later_self : (p : OpenPair) → IsNoLater p p
no_later_self p = inr (refl, inr (refl, inr (refl, omega arith)))
