-- Sums and greatest sizes over the numbers below a number.
use Rattle.std.proofs.Common.{◌≡◌, ℕ, zero, suc, ◌+◌, ◌*◌, ◌<◌, ◌≤◌, ◌⊎◌, inl, inr, ⊎_elim, refl, sym, ap, ◌∙◌, subst, arith}
use Rattle.std.specs.Prelude.{max}
use Rattle.std.proofs.lemmas.Bool.{cases_eq, cases_lt}
use Rattle.call_graph.specs.Tables.{sum_below, max_below}

pub last_or_before : (i n : ℕ) → i < suc n → (i ≡ n) ⊎ (i < n)
last_or_before i n l = ⊎_elim inl (λ ne. inr (omega (arith, l, ne))) (cases_eq i n)

-- ---- the greatest

pub max_below-at : (n : ℕ) (size : ℕ → ℕ) (i : ℕ) → i < n → size i ≤ max_below n size
max_below-at zero size i l = absurd (omega (arith, l))
max_below-at (suc n) size i l = ⊎_elim
    (λ e. subst (λ (k : ℕ). size k ≤ max (max_below n size) (size n)) (sym e) (omega arith))
    (λ before. let h = max_below-at n size i before in omega (arith, h))
    (last_or_before i n l)

pub max_below-le : (n : ℕ) (size : ℕ → ℕ) (bound : ℕ) → ((i : ℕ) → i < n → size i ≤ bound) → max_below n size ≤ bound
max_below-le zero size bound h = omega arith
max_below-le (suc n) size bound h =
    let before = max_below-le n size bound (λ i l. h i (omega (arith, l))) in
    let last = h n (omega arith) in
    omega (arith, before, last)

pub max_below-same : (n : ℕ) (one other : ℕ → ℕ) → ((i : ℕ) → i < n → one i ≡ other i) → max_below n one ≡ max_below n other
max_below-same zero one other h = refl
max_below-same (suc n) one other h =
    ap (λ (x : ℕ). max x (one n)) (max_below-same n one other (λ i l. h i (omega (arith, l)))) ∙ ap (λ (x : ℕ). max (max_below n other) x) (h n (omega arith))

-- it is that of some number, or 0
pub max_below-some : (n : ℕ) (size : ℕ → ℕ) → (max_below n size ≡ 0) ⊎ ((i : ℕ) × (i < n) × (size i ≡ max_below n size))
max_below-some zero size = inl refl
max_below-some (suc n) size = ⊎_elim
    (λ less. inr (n, omega arith, omega (arith, less)))
    (λ more. ⊎_elim
    (λ none. inl (omega (arith, more, none)))
    (λ some. let e = some.2 in inr (some.0, omega (arith, some.1), omega (arith, more, e)))
    (max_below-some n size))
    (cases_lt (max_below n size) (size n))

-- ---- sums

pub sum_below-le : (n : ℕ) (size : ℕ → ℕ) (bound : ℕ) → ((i : ℕ) → i < n → size i ≤ bound) → sum_below n size ≤ bound * n
sum_below-le zero size bound h = omega arith
sum_below-le (suc n) size bound h =
    let before = sum_below-le n size bound (λ i l. h i (omega (arith, l))) in
    let last = h n (omega arith) in
    grind (arith, before, last)

-- larger at one number by so much, smaller at none
pub sum_below-gain : (n : ℕ) (one other : ℕ → ℕ) (k gain : ℕ) → k < n → ((i : ℕ) → i < n → one i ≤ other i) → one k + gain ≤ other k
    → sum_below n one + gain ≤ sum_below n other
sum_below-gain zero one other k gain l h more = absurd (omega (arith, l))
sum_below-gain (suc n) one other k gain l h more = ⊎_elim
    (λ e.
    let here : one n + gain ≤ other n = subst (λ (i : ℕ). one i + gain ≤ other i) e more in
    let before = sum_below-gains n one other (λ i b. h i (omega (arith, b))) in
    omega (arith, here, before))
    (λ b.
    let before = sum_below-gain n one other k gain b (λ i b. h i (omega (arith, b))) more in
    let last = h n (omega arith) in
    omega (arith, before, last))
    (last_or_before k n l)
  where
    sum_below-gains : (n : ℕ) (one other : ℕ → ℕ) → ((i : ℕ) → i < n → one i ≤ other i) → sum_below n one ≤ sum_below n other
    sum_below-gains zero one other h = omega arith
    sum_below-gains (suc n) one other h =
        let before = sum_below-gains n one other (λ i b. h i (omega (arith, b))) in
        let last = h n (omega arith) in
        omega (arith, before, last)
