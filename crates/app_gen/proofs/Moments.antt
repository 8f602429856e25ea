-- Moments and lines of the arrivals.
use Rattle.std.proofs.Common.{◌≡◌, ◌∙◌, ℕ, zero, suc, ◌+◌, ◌*◌, ◌<◌, ◌≤◌, List, [], ◌∷◌, ◌++◌, map, add-one, arith, refl, sym, ap}
use Rattle.std.specs.List.{All, range_with_len}
use Rattle.std.proofs.lemmas.List.Elements.{All-nil, All-cons}
use Rattle.std.proofs.lemmas.List.FromFn.{length-map-range_with_len, map-range_with_len_more}
use Rattle.sloth_base.specs.Arrivals.{AreArrivals, AreRisingMoments}
use Rattle.sloth_base.specs.declared.service.Arrival.{Arrival}
use Rattle.sloth_base.specs.Limits.{count_limit}
use Rattle.sloth_base.proofs.Owners.{task_owned}
use Rattle.app_gen.specs.Load.{gap, moment_before, line_of, arrival, first_arrivals, owners_of}

pub gap_short : (x k : ℕ) → gap x k ≤ 900
unfolding gap
gap_short x k = omega arith

pub moment_bound : (x k : ℕ) → moment_before x k ≤ 1000 + 900 * k
unfolding moment_before
moment_bound x zero = omega arith
moment_bound x (suc k) =
    let ih = moment_bound x k in
    let g = gap_short x k in omega (arith, ih, g)

pub moment_next : (x k : ℕ) → moment_before x (k + 1) ≡ moment_before x k + gap x k
unfolding moment_before
moment_next x k = rw add-one refl

at_least : (x k : ℕ) → 1000 ≤ moment_before x k
unfolding moment_before
at_least x zero = omega arith
at_least x (suc k) = let ih = at_least x k in omega (arith, ih)

abbrev of : ℕ → ℕ → Arrival
of at line = record { at = at; line = line }

module _ (x n : ℕ) where
  never_falls : (k count b : ℕ) → b ≤ moment_before x k → AreRisingMoments b (map (arrival x n) (range_with_len k count))
  never_falls k zero b h = tt
  never_falls k (suc count) b h =
      let e = moment_next x k in (omega (arith, h), never_falls (k + 1) count (moment_before x k + gap x k) (omega (arith, e)))

  all_of : (P : Arrival → Type 0) (k count : ℕ) → ((i : ℕ) → i < k + count → P (arrival x n i)) → All P (map (arrival x n) (range_with_len k count))
  all_of P k zero h = All-nil P
  all_of P k (suc count) h =
      All-cons P (arrival x n k) (map (arrival x n) (range_with_len (k + 1) count)) (h k (omega arith))
      (all_of P (k + 1) count (λ i l. h i (omega (arith, l))))

  pub early_until : (count : ℕ) → All (λ a. a.at ≤ 1000 + 900 * count) (first_arrivals x n count)
  unfolding first_arrivals
  early_until count =
      all_of (λ a. a.at ≤ 1000 + 900 * count) 0 count (λ i l. let m = moment_bound x i in let g = gap_short x i in omega (arith, m, g, l))

  pub lines_below : 1 ≤ n → (count : ℕ) → All (λ a. a.line < n) (first_arrivals x n count)
  unfolding first_arrivals line_of
  lines_below h count = all_of (λ a. a.line < n) 0 count (λ i l. omega (arith, h))

  pub are_arrivals : 1 ≤ n → (count : ℕ) → count ≤ 1000 → AreArrivals (owners_of n) (first_arrivals x n count)
  unfolding first_arrivals
  are_arrivals h count few =
      record {
        few = let l = length-map-range_with_len (arrival x n) 0 count in omega (arith, l, few);
        moments_in_range = all_of (λ a. a.at ≤ count_limit) 0 count (λ i l. let m = moment_bound x i in let g = gap_short x i in omega (arith, m, g, l, few));
        ordered = let f = at_least x 0 in never_falls 0 count 1 (omega (arith, f));
        lines_owned = λ k d l. task_owned (owners_of n) _ (lines_below h count k d l);
      }

  arrivals_more : (k : ℕ) → first_arrivals x n (k + 1) ≡ first_arrivals x n k ++ arrival x n k ∷ []
  unfolding first_arrivals
  arrivals_more k = map-range_with_len_more (arrival x n) 0 k k (omega arith)

  -- one arrival more
  pub one_more : (k at line : ℕ) (old new : List Arrival) → new ≡ old ++ of at line ∷ [] → at ≡ moment_before x k + gap x k → line ≡ line_of x n k
      → old ≡ first_arrivals x n k → new ≡ first_arrivals x n (k + 1)
  one_more k at line old new p q r e =
      p ∙ ap (λ t. old ++ of t line ∷ []) q ∙ ap (λ l. old ++ of (moment_before x k + gap x k) l ∷ []) r
      ∙ ap (λ xs. xs ++ arrival x n k ∷ []) e ∙ sym (arrivals_more k)
