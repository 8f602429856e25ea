-- The lesser of a value and the cap, digit by digit.
use Rattle.std.proofs.Common.{◌≡◌, ℕ, ◌+◌, ◌*◌, ◌<◌, ◌≤◌, List, [], ◌∷◌, refl, ap, arith, sym, ◌∙◌, drop, get_or, length, add-one}
use Rattle.std.proofs.Math.Seq.{drop-cons}
use Rattle.std.proofs.lemmas.Bool.{cases_lt}
use Rattle.std.proofs.Math.Nat.{mul-le-mul_left}
use Rattle.std.proofs.Common.{inl, inr}
use Rattle.text_pieces.specs.Digits.{value_from, digit_value, capped_value}

more : (b x : ℕ) → 0 < b → x ≤ b * x
more b x h = grind (arith, mul-le-mul_left)

cap_step : (base x d : ℕ) → 0 < base → capped_value (base * capped_value x + d) ≡ capped_value (base * x + d)
cap_step base x d h = elim (cases_lt x 4294967296) [
  | inl l ↦ let e : capped_value x ≡ x = omega arith in ap (λ y. capped_value (base * y + d)) e
  | inr g ↦
      let e : capped_value x ≡ 4294967296 = omega arith in
      let p : 4294967296 ≤ base * 4294967296 = more base 4294967296 h in
      let q : x ≤ base * x = more base x h in
      ap (λ y. capped_value (base * y + d)) e ∙ omega (arith, p, q, g)
]

pub cap_value : (base : ℕ) (ds : List ℕ) (x : ℕ) → 0 < base → capped_value (value_from base (capped_value x) ds) ≡ capped_value (value_from base x ds)
cap_value base [] x h = omega arith
cap_value base (d ∷ ds) x h =
    sym (cap_value base ds (base * capped_value x + digit_value d) h)
    ∙ (ap (λ y. capped_value (value_from base y ds)) (cap_step base x (digit_value d) h) ∙ cap_value base ds (base * x + digit_value d) h)

pub value_step : (base v i : ℕ) (ds : List ℕ) → 0 < base → i < length ds
    → capped_value (value_from base (capped_value (base * v + digit_value (get_or ds i 0))) (drop (i + 1) ds)) ≡ capped_value (value_from base v (drop i ds))
value_step base v i ds b h = cap_value base (drop (i + 1) ds) (base * v + digit_value (get_or ds i 0)) b ∙ rw (add-one, drop-cons ds i 0 h) refl
