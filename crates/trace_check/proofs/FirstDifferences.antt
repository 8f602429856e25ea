-- The least number at which two lists that rise differ, and the first moment of which admissions and arrivals do.
use Rattle.std.proofs.Common.{◌≡◌, ◌∙◌, ℕ, ◌+◌, ◌/◌, ◌%◌, ◌<◌, ◌≤◌, ◌⊎◌, inl, inr, List, [], ◌∷◌, cond, map, refl, sym, ap, subst, arith}
use Rattle.std.specs.Prelude.{◌==◌, ltb, All}
use Rattle.std.specs.Ordering.{nat_cmp}
use Rattle.std.specs.List.Sorted.{IsPermutation, IsSorted}
use Rattle.std.proofs.lemmas.Bool.{eq-eqb, ne_eqb, le-ltb, lt-ltb, cases_lt, cases_order}
use Rattle.std.proofs.lemmas.List.Sorted.{IsNonDecreasingBy-from_sort}
use Rattle.sloth_base.specs.declared.service.Arrival.{Arrival}
use Rattle.sloth_base.specs.declared.service.Stamped.{Stamped}
use Rattle.osek_scheduler.specs.InTime.{AreAllAdmitted, admits_at, arrivals_at}
use Rattle.trace_check.specs.Counts.{AreLinesInRange, admit_numbers, arrival_number, least_apart, number_at, times}
use Rattle.trace_check.specs.Lateness.{IsFirstDifference}
use Rattle.trace_check.proofs.Counts.{AreFrom, Rises, counts_permuted, rises, times_below, times_here, times_other}
use Rattle.trace_check.proofs.Tail.{admits_counted, arrivals_counted, no_admits, no_arrivals}

-- ---- where two lists differ

none_below : (z y : ℕ) (ys : List ℕ) → z < y → AreFrom y ys → times z (y ∷ ys) ≡ 0
none_below z y ys less from = times_other z y ys (λ same. omega (arith, same, less)) ∙ times_below z y ys less from

module _ (x y : ℕ) (xs ys : List ℕ) where
  least_equal : x ≡ y → least_apart (x ∷ xs) (y ∷ ys) ≡ least_apart xs ys
  least_equal same = ap (λ b. cond b (least_apart xs ys) (cond (ltb y x) y x)) (eq-eqb x y same)

  least_left : x < y → least_apart (x ∷ xs) (y ∷ ys) ≡ x
  least_left less =
      ap (λ b. cond b (least_apart xs ys) (cond (ltb y x) y x)) (ne_eqb x y (λ same. omega (arith, same, less)))
      ∙ ap (λ b. cond b y x) (le-ltb y x (omega (arith, less)))

  least_right : y < x → least_apart (x ∷ xs) (y ∷ ys) ≡ y
  least_right less =
      ap (λ b. cond b (least_apart xs ys) (cond (ltb y x) y x)) (ne_eqb x y (λ same. omega (arith, same, less)))
      ∙ ap (λ b. cond b y x) (lt-ltb y x less)

least_same : (xs ys : List ℕ) → Rises xs → Rises ys → (z : ℕ) → z < least_apart xs ys → times z xs ≡ times z ys
least_same [] [] r q z less = refl
least_same [] (y ∷ ys) r q z less = sym (none_below z y ys less q.0)
least_same (x ∷ xs) [] r q z less = none_below z x xs less r.0
least_same (x ∷ xs) (y ∷ ys) r q z less = by (λ l. least_same xs ys r.1 q.1 z l) (cases_order x y)
  where
    below : (m : ℕ) → least_apart (x ∷ xs) (y ∷ ys) ≡ m → z < m
    below m is = subst (λ (v : ℕ). z < v) is less

    by : (z < least_apart xs ys → times z xs ≡ times z ys) → (x ≡ y) ⊎ ((x < y) ⊎ (y < x)) → times z (x ∷ xs) ≡ times z (y ∷ ys)
    by more (inl same) =
        ap (λ (w : ℕ). times z (w ∷ xs)) same ∙ ap (λ k. cond (y == z) 1 0 + k) (more (below (least_apart xs ys) (least_equal x y xs ys same)))
    by more (inr (inl low)) =
        let l = below x (least_left x y xs ys low) in
        none_below z x xs l r.0 ∙ sym (none_below z y ys (omega (arith, l, low)) q.0)
    by more (inr (inr low)) =
        let l = below y (least_right x y xs ys low) in
        none_below z x xs (omega (arith, l, low)) r.0 ∙ sym (none_below z y ys l q.0)

-- the lists differ at a number
abbrev Differ : List ℕ → List ℕ → ℕ → Type 0
Differ xs ys m = m < 18446744073709551615 → times m xs ≡ times m ys → ⊥

least_differs : (xs ys : List ℕ) → Rises xs → Rises ys → Differ xs ys (least_apart xs ys)
least_differs [] [] r q = λ less h. absurd (omega (arith, less))
least_differs [] (y ∷ ys) r q = λ less h. let here = times_here y ys in absurd (omega (arith, here, h))
least_differs (x ∷ xs) [] r q = λ less h. let here = times_here x xs in absurd (omega (arith, here, h))
least_differs (x ∷ xs) (y ∷ ys) r q = by (least_differs xs ys r.1 q.1) (cases_order x y)
  where
    at : (m : ℕ) → least_apart (x ∷ xs) (y ∷ ys) ≡ m → Differ (x ∷ xs) (y ∷ ys) m → Differ (x ∷ xs) (y ∷ ys) (least_apart (x ∷ xs) (y ∷ ys))
    at m is h = let P : ℕ → Type 0 = λ v. Differ (x ∷ xs) (y ∷ ys) v in subst P (sym is) h

    by : Differ xs ys (least_apart xs ys) → (x ≡ y) ⊎ ((x < y) ⊎ (y < x)) → Differ (x ∷ xs) (y ∷ ys) (least_apart (x ∷ xs) (y ∷ ys))
    by more (inl same) =
        at (least_apart xs ys) (least_equal x y xs ys same)
        (λ less h. let f = ap (λ (w : ℕ). times (least_apart xs ys) (w ∷ ys)) same in more less (omega (arith, h, f)))
    by more (inr (inl low)) =
        at x (least_left x y xs ys low)
        (λ less h. let here = times_here x xs in let none = none_below x y ys low q.0 in absurd (omega (arith, here, none, h)))
    by more (inr (inr low)) =
        at y (least_right x y xs ys low)
        (λ less h. let here = times_here y ys in let none = none_below y x xs low r.0 in absurd (omega (arith, here, none, h)))

-- ---- admissions and arrivals

module _ (arrivals : List Arrival) (events : List Stamped) (small : AreLinesInRange events) (lines : All (λ a. a.line < 4294967296) arrivals)
    (x : ℕ) (same : (z : ℕ) → z < x → times z (admit_numbers events) ≡ times z (map arrival_number arrivals))
    (differs : Differ (admit_numbers events) (map arrival_number arrivals) x) where
  before_is : AreAllAdmitted (x / 4294967296) arrivals events
  before_is k t less = by (cases_lt t 4294967296)
    where
      by : (t < 4294967296) ⊎ (4294967296 ≤ t) → admits_at k t events ≡ arrivals_at k t arrivals
      by (inl low) = admits_counted k t low events small ∙ (same (number_at k t) (omega (arith, less, low)) ∙ sym (arrivals_counted k t low arrivals lines))
      by (inr high) = no_admits k t high events small ∙ sym (no_arrivals k t high arrivals lines)

  first_by : IsFirstDifference arrivals events x
  first_by = record {
    earlier = before_is;
    differs = λ less e.
        let P : ℕ → Type 0 = λ v. times v (admit_numbers events) ≡ times v (map arrival_number arrivals) in
        let low : x % 4294967296 < 4294967296 = omega arith in
        let is : number_at (x / 4294967296) (x % 4294967296) ≡ x = omega arith in
        let counted = sym (admits_counted (x / 4294967296) (x % 4294967296) low events small) ∙ (e ∙ arrivals_counted (x / 4294967296) (x % 4294967296) low arrivals lines) in
        differs less (subst P is counted);
  }

pub first_apart : (arrivals : List Arrival) (events : List Stamped) → AreLinesInRange events → All (λ a. a.line < 4294967296) arrivals
    → (xs ys : List ℕ) → IsPermutation (admit_numbers events) xs → IsPermutation (map arrival_number arrivals) ys → IsSorted nat_cmp xs → IsSorted nat_cmp ys
    → (x : ℕ) → x ≡ least_apart xs ys → IsFirstDifference arrivals events x
first_apart arrivals events small lines xs ys p q sorted others x is =
    let r = rises xs (IsNonDecreasingBy-from_sort (λ x. x) xs sorted) in
    let s = rises ys (IsNonDecreasingBy-from_sort (λ x. x) ys others) in
    let P : ℕ → Type 0 = λ v. Differ xs ys v in
    first_by arrivals events small lines x
    (λ z less. counts_permuted (admit_numbers events) xs p z ∙ (least_same xs ys r s z (subst (λ (v : ℕ). z < v) is less) ∙ sym (counts_permuted (map arrival_number arrivals) ys q z)))
    (λ less h. subst P (sym is) (least_differs xs ys r s) less
    (sym (counts_permuted (admit_numbers events) xs p x) ∙ (h ∙ counts_permuted (map arrival_number arrivals) ys q x)))
