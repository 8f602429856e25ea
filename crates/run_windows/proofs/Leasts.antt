-- The least number of two kinds, and of a row of kinds.
use Rattle.std.proofs.Common.{◌≡◌, ℕ, ◌+◌, ◌<◌, ◌≤◌, ◌⊎◌, inl, inr, min, Option, Some, None, refl, sym, subst, arith, ⊎_elim}
use Rattle.std.proofs.lemmas.Bool.{cases_lt, cases_eq}
use Rattle.run_windows.specs.Costs.{lesser}
use Rattle.run_windows.specs.RunWindows.{IsLeastOf}

-- the same numbers have the same least
pub same_least : (P Q : ℕ → Type 0) (a : Option ℕ) → ((n : ℕ) → P n → Q n) → ((n : ℕ) → Q n → P n) → IsLeastOf P a → IsLeastOf Q a
same_least P Q (Some x) to from l = (to x l.0, λ m q. l.1 m (from m q))
same_least P Q None to from none = λ m q. none m (from m q)

pub least_either : (P Q : ℕ → Type 0) (a b : Option ℕ) → IsLeastOf P a → IsLeastOf Q b → IsLeastOf (λ n. P n ⊎ Q n) (lesser a b)
least_either P Q (Some x) (Some y) l r = (here (cases_lt y x), λ m. ⊎_elim (λ p. let le = l.1 m p in omega (arith, le)) (λ q. let le = r.1 m q in omega (arith, le)))
  where
    here : (y < x) ⊎ (x ≤ y) → P (min x y) ⊎ Q (min x y)
    here (inl lt) = let e : y ≡ min x y = omega (arith, lt) in inr (subst Q e r.0)
    here (inr le) = let e : x ≡ min x y = omega (arith, le) in inl (subst P e l.0)
least_either P Q (Some x) None l none = (inl l.0, λ m. ⊎_elim (λ p. l.1 m p) (λ q. absurd (none m q)))
least_either P Q None (Some y) none r = (inr r.0, λ m. ⊎_elim (λ p. absurd (none m p)) (λ q. r.1 m q))
least_either P Q None None none empty = λ m. ⊎_elim (λ p. none m p) (λ q. empty m q)

-- one of the first kinds of a row, so many of them
abbrev pub Below : (Kind : ℕ → ℕ → Type 0) → (count n : ℕ) → Type 0
Below Kind count n = (k : ℕ) × (k < count) × Kind k n

pub none_below : (Kind : ℕ → ℕ → Type 0) → IsLeastOf (Below Kind 0) None
none_below Kind m b = let lt = b.1 in omega (arith, lt)

pub one_below_more : (Kind : ℕ → ℕ → Type 0) (count : ℕ) (a b : Option ℕ) → IsLeastOf (Below Kind count) a → IsLeastOf (Kind count) b
    → IsLeastOf (Below Kind (count + 1)) (lesser a b)
one_below_more Kind count a b before here =
    same_least (λ n. Below Kind count n ⊎ Kind count n) (Below Kind (count + 1)) (lesser a b) to from (least_either (Below Kind count) (Kind count) a b before here)
  where
    to : (n : ℕ) → Below Kind count n ⊎ Kind count n → Below Kind (count + 1) n
    to n (inl b) = let lt = b.1 in (b.0, omega (arith, lt), b.2)
    to n (inr k) = (count, omega arith, k)

    from : (n : ℕ) → Below Kind (count + 1) n → Below Kind count n ⊎ Kind count n
    from n b = ⊎_elim (λ e. inr (subst (λ k. Kind k n) e b.2)) (λ d. let lt = b.1 in inl (b.0, omega (arith, lt, d), b.2)) (cases_eq b.0 count)
