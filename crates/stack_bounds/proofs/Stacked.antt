-- The greatest sum over tasks stacked by rising priorities is that of one task with all that may stand below it.
use Rattle.std.proofs.Common.{◌≡◌, ℕ, zero, suc, ◌+◌, ◌<◌, ◌≤◌, ◌⊎◌, ⊎_elim, List, [], ◌∷◌, ◌++◌, refl, sym, arith}
use Rattle.std.proofs.lemmas.Bool.{cases_lt}
use Rattle.stack_bounds.specs.Bounds.{total, IsGreatest}
use Rattle.call_graph.specs.Tables.{sum_below, max_below}
use Rattle.stack_bounds.proofs.Below.{max_below-at, max_below-some, sum_below-gain}

-- Numbers below n with a priority that differs, a size, and tests which of them are wanted, and which may stand below others.
module _ (n : ℕ) (priority size : ℕ → ℕ) (Wanted Lower : ℕ → Type 0) where
  -- wanted numbers of rising priorities, of which all but the last may stand below others
  abbrev pub AreRising : List ℕ → Type 0
  AreRising [] = Unit {0}
  AreRising (t ∷ []) = Wanted t
  AreRising (t ∷ u ∷ rest) = Wanted t × Lower t × (priority t < priority u) × AreRising (u ∷ rest)

  -- ---- lists that rise, of numbers below k which may stand below a priority

  module _ (below : ℕ) where
    abbrev pub IsUnder : ℕ → Type 0
    IsUnder t = Wanted t × Lower t × (priority t < below)

    abbrev pub RiseFrom : (k low : ℕ) → List ℕ → Type 0
    RiseFrom k low [] = Unit {0}
    RiseFrom k low (t ∷ rest) = (t < k) × IsUnder t × (low ≤ priority t) × RiseFrom k (priority t + 1) rest

    more_numbers : (k low : ℕ) (list : List ℕ) → RiseFrom k low list → RiseFrom (suc k) low list
    more_numbers k low [] h = tt
    more_numbers k low (t ∷ rest) h = let l = h.0 in (omega (arith, l), h.1, h.2, more_numbers k (priority t + 1) rest h.3)

    -- with one number more in its place
    put : (k low : ℕ) (list : List ℕ) → RiseFrom k low list → ((t : ℕ) → t < k → priority t ≡ priority k → ⊥) → IsUnder k → low ≤ priority k
        → (longer : List ℕ) × RiseFrom (suc k) low longer × (total size longer ≡ size k + total size list)
    put k low [] h differ under l = (k ∷ [], (omega arith, under, l, tt), refl)
    put k low (t ∷ rest) h differ under l = ⊎_elim
        (λ less. (
          k ∷ t ∷ rest,
          (omega arith, under, l, ((let b = h.0 in omega (arith, b)), h.1, omega (arith, less), more_numbers k (priority t + 1) rest h.3)),
          refl,
        ))
        (λ more.
        let ne = differ t h.0 in
        let further = put k (priority t + 1) rest h.3 differ under (omega (arith, more, ne)) in
        let e = further.2 in
        (t ∷ further.0, ((let b = h.0 in omega (arith, b)), h.1, h.2, further.1), omega (arith, e)))
        (cases_lt (priority k) (priority t))

    -- a size that counts where the number may stand below the priority, and else is 0
    abbrev pub Counts : (ℕ → ℕ) → ℕ → Type 0
    Counts counted t = (IsUnder t × (counted t ≡ size t)) ⊎ (counted t ≡ 0)

    pub sorted : (counted : ℕ → ℕ) (k : ℕ) → ((t : ℕ) → t < k → Counts counted t) → ((t u : ℕ) → t < u → u < k → priority t ≡ priority u → ⊥)
        → (list : List ℕ) × RiseFrom k 0 list × (total size list ≡ sum_below k counted)
    sorted counted zero counts differ = ([], tt, refl)
    sorted counted (suc k) counts differ =
        let before = sorted counted k (λ t l. counts t (omega (arith, l))) (λ t u l m. differ t u l (omega (arith, m))) in
        let e = before.2 in
        ⊎_elim
        (λ yes.
        let more = put k 0 before.0 before.1 (λ t l. differ t k l (omega arith)) yes.0 (omega arith) in
        let f = more.2 in
        let s = yes.1 in
        (more.0, more.1, omega (arith, e, f, s)))
        (λ no. (before.0, more_numbers k 0 before.0 before.1, omega (arith, e, no)))
        (counts k (omega arith))

    topped : (k low : ℕ) (list : List ℕ) (top : ℕ) → RiseFrom k low list → Wanted top → below ≤ priority top → AreRising (list ++ top ∷ [])
    topped k low [] top h wanted l = wanted
    topped k low (t ∷ []) top h wanted l = let p = h.1.2 in (h.1.0, h.1.1, omega (arith, p, l), wanted)
    topped k low (t ∷ u ∷ rest) top h wanted l =
        let p = h.3.2 in (h.1.0, h.1.1, omega (arith, p), topped k (priority t + 1) (u ∷ rest) top h.3 wanted l)

  total-append : (list : List ℕ) (top : ℕ) → total size (list ++ top ∷ []) ≡ total size list + size top
  total-append [] top = omega arith
  total-append (t ∷ rest) top = let e = total-append rest top in omega (arith, e)

  -- ---- the greatest sum

  -- `counted` has the sizes that count below a priority, `best` a wanted number's size with those below it, and 0 for another
  pub record AreCounted (counted : ℕ → ℕ → ℕ) (best : ℕ → ℕ) : Type 0 where
    pub known : (t : ℕ) → Wanted t → t < n
    pub differ : (t u : ℕ) → t < u → u < n → priority t ≡ priority u → ⊥
    pub counts : (p t : ℕ) → t < n → Counts p (counted p) t
    pub under : (p t : ℕ) → IsUnder p t → counted p t ≡ size t
    pub above : (p t : ℕ) → p ≤ priority t → counted p t ≡ 0
    pub more : (p q t : ℕ) → p ≤ q → counted p t ≤ counted q t
    pub bests : (t : ℕ) → t < n → (Wanted t × (best t ≡ sum_below n (counted (priority t)) + size t)) ⊎ ((Wanted t → ⊥) × (best t ≡ 0))

  module _ (counted : ℕ → ℕ → ℕ) (best : ℕ → ℕ) (are : AreCounted counted best) where
    abbrev lower : ℕ → ℕ
    lower t = sum_below n (counted (priority t))

    best_is : (t : ℕ) → Wanted t → lower t + size t ≤ max_below n best
    best_is t wanted = ⊎_elim
        (λ yes. let at = max_below-at n best t (are.known t wanted) in let e = yes.1 in omega (arith, at, e))
        (λ no. absurd (no.0 wanted))
        (are.bests t (are.known t wanted))

    rising_le : (t : ℕ) (rest : List ℕ) → AreRising (t ∷ rest) → lower t + total size (t ∷ rest) ≤ max_below n best
    rising_le t [] h = let b = best_is t h in omega (arith, b)
    rising_le t (u ∷ rest) h =
        let rises = h.2 in
        let none = are.above (priority t) t (omega arith) in
        let all = are.under (priority u) t (h.0, h.1, rises) in
        let gain = sum_below-gain n (counted (priority t)) (counted (priority u)) t (size t) (are.known t h.0) (λ i l. are.more (priority t) (priority u) i (omega (arith, rises))) (omega (arith, none, all)) in
        let further = rising_le u rest h.3 in
        omega (arith, gain, further)

    pub greatest : IsGreatest AreRising (total size) (max_below n best)
    greatest = record {
      some = ⊎_elim
          (λ none. ([], tt, sym none))
          (λ some. ⊎_elim
          (λ yes.
          let t = some.0 in
          let stack = sorted (priority t) (counted (priority t)) n (are.counts (priority t)) are.differ in
          let e = stack.2 in
          let f = total-append stack.0 t in
          let g = yes.1 in
          let h = some.2 in
          (stack.0 ++ t ∷ [], topped (priority t) n 0 stack.0 t stack.1 yes.0 (omega arith), omega (arith, e, f, g, h)))
          (λ no. let z = no.1 in let h = some.2 in ([], tt, omega (arith, z, h)))
          (are.bests some.0 some.1))
          (max_below-some n best);
      none_greater = λ list. by list;
    }
      where
        by : (list : List ℕ) → AreRising list → total size list ≤ max_below n best
        by [] h = omega arith
        by (t ∷ rest) h = let l = rising_le t rest h in omega (arith, l)
