-- Sums, joined and compared.
use Rattle.std.proofs.Common.{◌≡◌, ℕ, zero, suc, ◌+◌, ◌*◌, ◌<◌, ◌≤◌, ◌⊎◌, ◌==◌, ltb, List, [], ◌∷◌, ◌++◌, Bool, true, false, cond, length, refl, sym, ap, subst, arith, inl, inr, add-mul, mul-add, mul-le-mul_right}
use Rattle.std.specs.List.{AllByRecursion}
use Rattle.std.proofs.lemmas.Bool.{cases_eq, cases_lt, lt-ltb, le-ltb, ne_eqb}
use Rattle.sloth_base.specs.declared.config.Config.{Config}
use Rattle.run_counts.specs.Stages.{Stage}
use Rattle.run_counts.specs.Rounds.{total}
use Rattle.response_laws.specs.Sums.{total_where, count, sum_below, is_over, sum_over}

-- ---- products

pub product_grows : (a b k : ℕ) → a ≤ b → a * k ≤ b * k
product_grows a b k le = mul-le-mul_right k le

pub one_more : (c m : ℕ) → (1 + c) * m ≡ m + c * m
one_more c m = let both = add-mul 1 c m in omega (arith, both)

pub both_parts : (c n a b e t : ℕ) → c ≤ n → a ≤ c * e → b ≤ c * t → a + b ≤ n * (e + t)
both_parts c n a b e t le p q =
    let whole = product_grows c n (e + t) le in
    let parts = mul-add c e t in
    omega (arith, whole, parts, p, q)

-- ---- over stages

pub total-append : (f : Stage → ℕ) (xs ys : List Stage) → total f (xs ++ ys) ≡ total f xs + total f ys
total-append f [] ys = omega arith
total-append f (x ∷ xs) ys = let rest = total-append f xs ys in omega (arith, rest)

pub total-le : (f g : Stage → ℕ) (xs : List Stage) → AllByRecursion (λ x. f x ≤ g x) xs → total f xs ≤ total g xs
total-le f g [] each = omega arith
total-le f g (x ∷ xs) each =
    let here = each.0 in
    let rest = total-le f g xs each.1 in
    omega (arith, here, rest)

pub total-none : (f : Stage → ℕ) (xs : List Stage) → AllByRecursion (λ x. f x ≤ 0) xs → total f xs ≤ 0
total-none f [] each = omega arith
total-none f (x ∷ xs) each =
    let here = each.0 in
    let rest = total-none f xs each.1 in
    omega (arith, here, rest)

pub each_stage : (P : Stage → Type 0) → ((x : Stage) → P x) → (xs : List Stage) → AllByRecursion P xs
each_stage P all [] = tt
each_stage P all (x ∷ xs) = (all x, each_stage P all xs)

-- where each stage that passes has at most so much
pub total_within : (test : Stage → Bool) (f : Stage → ℕ) (most : ℕ) (xs : List Stage) → AllByRecursion (λ x. test x ≡ true → f x ≤ most) xs
    → total_where test f xs ≤ count test xs * most
total_within test f most [] each = omega arith
total_within test f most (x ∷ xs) each = by (test x) each.0 (total_within test f most xs each.1)
  where
    by : (b : Bool) → (b ≡ true → f x ≤ most) → total_where test f xs ≤ count test xs * most
        → cond b (f x) 0 + total_where test f xs ≤ (cond b 1 0 + count test xs) * most
    by true h rest =
        let le = h refl in
        let more = one_more (count test xs) most in
        omega (arith, le, rest, more)
    by false h rest =
        let zero : 0 + count test xs ≡ count test xs = omega arith in
        let same = ap (λ c. c * most) zero in
        omega (arith, rest, same)

-- ---- over numbers

pub sum_below-le : (n : ℕ) (f g : ℕ → ℕ) → ((j : ℕ) → j < n → f j ≤ g j) → sum_below n f ≤ sum_below n g
sum_below-le zero f g each = omega arith
sum_below-le (suc n) f g each =
    let here = each n (omega arith) in
    let rest = sum_below-le n f g (λ j lt. each j (omega (arith, lt))) in
    omega (arith, here, rest)

pub sum_below-join : (n : ℕ) (f g k : ℕ → ℕ) → ((j : ℕ) → f j + g j ≤ k j) → sum_below n f + sum_below n g ≤ sum_below n k
sum_below-join zero f g k each = omega arith
sum_below-join (suc n) f g k each =
    let here = each n in
    let rest = sum_below-join n f g k each in
    omega (arith, here, rest)

pub sum_below-term : (n : ℕ) (f : ℕ → ℕ) (t : ℕ) → t < n → f t ≤ sum_below n f
sum_below-term zero f t lt = absurd (omega (arith, lt))
sum_below-term (suc n) f t lt = by (cases_eq t n) (λ below. sum_below-term n f t below)
  where
    by : (t ≡ n) ⊎ (t ≡ n → ⊥) → (t < n → f t ≤ sum_below n f) → f t ≤ f n + sum_below n f
    by (inl e) again = subst (λ x. f x ≤ f n + sum_below n f) (sym e) (omega arith)
    by (inr other) again = let rest = again (omega (arith, lt, other)) in omega (arith, rest)

-- ---- over tasks

module _ (config : Config) (h : ℕ) where
  pub sum_over-le : (f g : ℕ → ℕ) → ((j : ℕ) → j < length config.tasks → is_over config h j ≡ true → f j ≤ g j) → sum_over config h f ≤ sum_over config h g
  sum_over-le f g each =
      sum_below-le (length config.tasks) (λ t. cond (is_over config h t) (f t) 0) (λ t. cond (is_over config h t) (g t) 0)
      (λ j lt. by (is_over config h j) (f j) (g j) (each j lt))
    where
      by : (b : Bool) (m k : ℕ) → (b ≡ true → m ≤ k) → cond b m 0 ≤ cond b k 0
      by true m k le = le refl
      by false m k le = omega arith

  pub sum_over-join : (f g k : ℕ → ℕ) → ((j : ℕ) → f j + g j ≤ k j) → sum_over config h f + sum_over config h g ≤ sum_over config h k
  sum_over-join f g k each =
      sum_below-join (length config.tasks) (λ t. cond (is_over config h t) (f t) 0) (λ t. cond (is_over config h t) (g t) 0)
      (λ t. cond (is_over config h t) (k t) 0) (λ j. by (is_over config h j) (f j) (g j) (k j) (each j))
    where
      by : (b : Bool) (m p q : ℕ) → m + p ≤ q → cond b m 0 + cond b p 0 ≤ cond b q 0
      by true m p q le = le
      by false m p q le = omega arith

  pub sum_over-term : (f : ℕ → ℕ) (t : ℕ) → t < length config.tasks → is_over config h t ≡ true → f t ≤ sum_over config h f
  sum_over-term f t lt over =
      let term = sum_below-term (length config.tasks) (λ u. cond (is_over config h u) (f u) 0) t lt in
      let here = ap {B = ℕ} (λ b. cond b (f t) 0) over in
      omega (arith, term, here)

  -- a number for task h alone comes once
  sum_once : (r : ℕ) (g : ℕ → ℕ) (n : ℕ)
      → sum_below n (λ k. cond (is_over config h k) (cond (k == h) r 0 + g k) 0) ≤ cond (ltb h n) r 0 + sum_below n (λ k. cond (is_over config h k) (g k) 0)
  sum_once r g zero = omega arith
  sum_once r g (suc n) = by (cases_eq n h) (sum_once r g n)
    where
      drop : (b : Bool) (m : ℕ) → cond b m 0 ≤ m
      drop true m = omega arith
      drop false m = omega arith

      split : (b : Bool) (m k : ℕ) → cond b (m + k) 0 ≤ cond b m 0 + cond b k 0
      split true m k = omega arith
      split false m k = omega arith

      by : (n ≡ h) ⊎ (n ≡ h → ⊥)
          → sum_below n (λ k. cond (is_over config h k) (cond (k == h) r 0 + g k) 0) ≤ cond (ltb h n) r 0 + sum_below n (λ k. cond (is_over config h k) (g k) 0)
          → cond (is_over config h n) (cond (n == h) r 0 + g n) 0 + sum_below n (λ k. cond (is_over config h k) (cond (k == h) r 0 + g k) 0)
          ≤ cond (ltb h (suc n)) r 0 + (cond (is_over config h n) (g n) 0 + sum_below n (λ k. cond (is_over config h k) (g k) 0))
      by (inl e) rest =
          let off = ap {B = ℕ} (λ b. cond b r 0) (le-ltb h n (omega (arith, e))) in
          let on = ap {B = ℕ} (λ b. cond b r 0) (lt-ltb h (suc n) (omega (arith, e))) in
          let parts = split (is_over config h n) (cond (n == h) r 0) (g n) in
          let least = drop (is_over config h n) (cond (n == h) r 0) in
          let less = drop (n == h) r in
          omega (arith, rest, off, on, parts, least, less)
      by (inr other) rest =
          let none = ap {B = ℕ} (λ b. cond (is_over config h n) (cond b r 0 + g n) 0) (ne_eqb n h other) in
          let zero_first : 0 + g n ≡ g n = omega arith in
          let same = ap {B = ℕ} (λ m. cond (is_over config h n) m 0) zero_first in
          let later = which (cases_lt h n) in
          omega (arith, rest, none, same, later)
        where
          which : (h < n) ⊎ (n ≤ h) → cond (ltb h n) r 0 ≤ cond (ltb h (suc n)) r 0
          which (inl lt) =
              let a = ap {B = ℕ} (λ b. cond b r 0) (lt-ltb h n lt) in
              let b = ap {B = ℕ} (λ b. cond b r 0) (lt-ltb h (suc n) (omega (arith, lt))) in
              omega (arith, a, b)
          which (inr le) = let a = ap {B = ℕ} (λ b. cond b r 0) (le-ltb h n le) in omega (arith, a)

  pub sum_over-once : (r : ℕ) (g : ℕ → ℕ) → sum_over config h (λ k. cond (k == h) r 0 + g k) ≤ r + sum_over config h g
  sum_over-once r g =
      let le = sum_once r g (length config.tasks) in
      let most = few (ltb h (length config.tasks)) in
      omega (arith, le, most)
    where
      few : (b : Bool) → cond b r 0 ≤ r
      few true = omega arith
      few false = omega arith
