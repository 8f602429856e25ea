-- Sums over lists, and over numbers.
use Rattle.std.proofs.Common.{◌≡◌, ℕ, zero, suc, ◌+◌, ◌*◌, ◌<◌, ◌≤◌, ◌⊎◌, inl, inr, ◌==◌, cond, Bool, min, List, [], ◌∷◌, length, get_or, refl, ap, subst, arith}
use Rattle.std.proofs.lemmas.Bool.{cases_eq, eq-eqb}
use Rattle.run_windows.specs.declared.costs.TaskCosts.{TaskCosts}
use Rattle.run_windows.specs.declared.costs.CounterCosts.{CounterCosts}
use Rattle.run_windows.specs.declared.costs.AlarmCosts.{AlarmCosts}
use Rattle.run_windows.specs.declared.costs.Makings.{Makings}
use Rattle.run_windows.specs.Arrivals.{arrivals, expiring, ticking, tick_counts}
use Rattle.run_windows.specs.Windows.{Numbers, shared, of_makings, round_makings, round_counts}
use Rattle.response_laws.specs.Sums.{sum_below}

-- a sum over a list, whose first element has number k
abbrev pub sum_from : {X : Type 0} → (ℕ → X → ℕ) → ℕ → List X → ℕ
sum_from f k [] = 0
sum_from f k (x ∷ xs) = f k x + sum_from f (k + 1) xs

module _ {X : Type 0} (d : X) (f : ℕ → X → ℕ) (g : ℕ → ℕ) where
  one_more : (k : ℕ) → sum_below (k + 1) g ≡ g k + sum_below k g
  one_more k = let e : k + 1 ≡ suc k = omega arith in ap (λ m. sum_below m g) e

  up_from : (k : ℕ) (xs : List X) → ((i : ℕ) → i < length xs → g (k + i) ≤ f (k + i) (get_or xs i d))
      → sum_below (k + length xs) g ≤ sum_below k g + sum_from f k xs
  up_from k [] each = let e : k + 0 ≡ k = omega arith in let same = ap (λ m. sum_below m g) e in omega (arith, same)
  up_from k (x ∷ xs) each =
      let rest = up_from (k + 1) xs (λ i lt.
      let P : ℕ → Type 0 = λ m. g m ≤ f m (get_or xs i d) in
      let e : k + suc i ≡ k + 1 + i = omega arith in
      subst P e (each (suc i) (omega (arith, lt)))) in
      let more = one_more k in
      let P : ℕ → Type 0 = λ m. g m ≤ f m x in
      let z : k + 0 ≡ k = omega arith in
      let here : g k ≤ f k x = subst P z (each 0 (omega arith)) in
      let e : k + suc (length xs) ≡ k + 1 + length xs = omega arith in
      let same = ap (λ m. sum_below m g) e in
      omega (arith, rest, more, here, same)

  -- a sum over numbers is at most that over a list, where each of its numbers is
  pub below_list : (n : ℕ) (xs : List X) → length xs ≡ n → ((i : ℕ) → i < n → g i ≤ f i (get_or xs i d)) → sum_below n g ≤ sum_from f 0 xs
  below_list n xs count each =
      let all = up_from 0 xs (λ i lt.
      let P : ℕ → Type 0 = λ m. g m ≤ f m (get_or xs i d) in
      let e : i ≡ 0 + i = omega arith in
      subst P e (each i (omega (arith, lt, count)))) in
      let e : 0 + length xs ≡ n = omega (arith, count) in
      let same = ap (λ m. sum_below m g) e in
      omega (arith, all, same)

-- one of the numbers has something more
pub with_one : (n : ℕ) (g : ℕ → ℕ) (b more : ℕ) → b < n → sum_below n g + more ≤ sum_below n (λ k. g k + cond (k == b) more 0)
with_one zero g b more lt = absurd (omega (arith, lt))
with_one (suc n) g b more lt = by (cases_eq n b) (λ less. with_one n g b more less)
  where
    without : (m : ℕ) → sum_below m g ≤ sum_below m (λ k. g k + cond (k == b) more 0)
    without zero = omega arith
    without (suc m) = let rest = without m in omega (arith, rest)

    by : (n ≡ b) ⊎ (n ≡ b → ⊥) → (b < n → sum_below n g + more ≤ sum_below n (λ k. g k + cond (k == b) more 0))
        → sum_below (suc n) g + more ≤ sum_below (suc n) (λ k. g k + cond (k == b) more 0)
    by (inl e) f = let on = ap (λ t. cond t more 0) (eq-eqb n b e) in let rest = without n in omega (arith, on, rest)
    by (inr ne) f = let rest = f (omega (arith, lt, ne)) in omega (arith, rest)

-- ---- the sums of a window

pub makings_sum : (sets : Bool) (n : Numbers) (k : ℕ) (ms : List Makings) → round_makings sets n k ms ≡ sum_from (λ i m. of_makings sets (n i) m) k ms
makings_sum sets n k [] = refl
makings_sum sets n k (m ∷ ms) = ap (λ v. of_makings sets (n k) m + v) (makings_sum sets n (k + 1) ms)

pub rounds_sum : (n : Numbers) (k : ℕ) (ts : List TaskCosts) → round_counts n k ts ≡ sum_from (λ i t. shared (n i) t.first t.next) k ts
rounds_sum n k [] = refl
rounds_sum n k (t ∷ ts) = ap (λ v. shared (n k) t.first t.next + v) (rounds_sum n (k + 1) ts)

pub ticking_sum : (boot sets : Bool) (j counts : ℕ) (alarms : List AlarmCosts) (c : ℕ) (cs : List CounterCosts)
    → ticking boot sets j counts alarms c cs
    ≡ sum_from (λ i counter. min (arrivals counts counter.distance) (expiring boot sets i j (arrivals counts counter.distance) alarms)) c cs
ticking_sum boot sets j counts alarms c [] = refl
ticking_sum boot sets j counts alarms c (counter ∷ cs) =
    ap (λ v. min (arrivals counts counter.distance) (expiring boot sets c j (arrivals counts counter.distance) alarms) + v) (ticking_sum boot sets j counts alarms (c + 1) cs)

pub ticks_sum : (counts : ℕ) (k : ℕ) (cs : List CounterCosts) → tick_counts counts cs ≡ sum_from (λ i counter. arrivals counts counter.distance * counter.tick) k cs
ticks_sum counts k [] = refl
ticks_sum counts k (counter ∷ cs) = ap (λ v. arrivals counts counter.distance * counter.tick + v) (ticks_sum counts (k + 1) cs)
