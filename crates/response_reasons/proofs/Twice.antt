-- What first nodes lead to where nodes stand twice.
use Rattle.std.proofs.Common.{◌≡◌, ℕ, ◌+◌, ◌-◌, ◌<◌, ◌≤◌, ◌⊎◌, inl, inr, Bool, true, false, ltb, ◌||◌, cond, List, length, get_or, Option, Some, None, refl, sym, ap, ◌∙◌, subst, arith, ⊎_elim}
use Rattle.std.proofs.lemmas.Bool.{cases_lt, cases_eq, lt-ltb, ltb-true}
use Rattle.std.proofs.lemmas.List.{get_or_past}
use Rattle.walk_sums.specs.declared.graph.Ways.{Ways}
use Rattle.walk_sums.specs.Graph.{no_ways, ways_of, HasWay, AreInside}
use Rattle.walk_sums.specs.Search.{IsReachable, reachable_first, reachable_on}
use Rattle.response_reasons.specs.Doubled.{second_way, second_ways, first_ways, AreDoubled}

some_is : (a b : ℕ) → Some a ≡ Some b → a ≡ b
some_is a b e = cc

-- a way among second nodes is one of first ones
second_is : (n : ℕ) (w : Option ℕ) (m : ℕ) → second_way n w ≡ Some m → (j : ℕ) × (w ≡ Some j) × (m ≡ n + j)
second_is n None m e = absurd cc
second_is n (Some j) m e = (j, refl, sym (some_is (n + j) m e))

second_has : (n : ℕ) (w : Ways) (m : ℕ) → ((second_ways n w).next ≡ Some m) ⊎ ((second_ways n w).jump ≡ Some m) → (j : ℕ) × ((w.next ≡ Some j) ⊎ (w.jump ≡ Some j)) × (m ≡ n + j)
second_has n w m (inl e) = let s = second_is n w.next m e in (s.0, inl s.1, s.2)
second_has n w m (inr e) = let s = second_is n w.jump m e in (s.0, inr s.1, s.2)

has_second : (n : ℕ) (w : Ways) (j : ℕ) → (w.next ≡ Some j) ⊎ (w.jump ≡ Some j) → ((second_ways n w).next ≡ Some (n + j)) ⊎ ((second_ways n w).jump ≡ Some (n + j))
has_second n w j (inl e) = inl (ap (second_way n) e)
has_second n w j (inr e) = inr (ap (second_way n) e)

abbrev Has : Ways → ℕ → Type 0
Has w m = (w.next ≡ Some m) ⊎ (w.jump ≡ Some m)

module _ (ways : List Ways) (steps : List ℕ) (twice : List Ways) (d : AreDoubled ways steps twice) where
  abbrev n : ℕ
  n = length ways

  -- ---- single ways

  pub from_second : (i m : ℕ) → i < n → HasWay twice (n + i) m → (j : ℕ) × HasWay ways i j × (m ≡ n + j)
  from_second i m lt g = second_has n (ways_of ways i) m (subst (λ w. Has w m) (d.second i lt) g)

  pub to_second : (i j : ℕ) → i < n → HasWay ways i j → HasWay twice (n + i) (n + j)
  to_second i j lt g = subst (λ w. Has w (n + j)) (sym (d.second i lt)) (has_second n (ways_of ways i) j g)

  -- what a first node weighs
  pub weighs_or_not : (i : ℕ) → (0 < get_or steps i 0) ⊎ (get_or steps i 0 ≡ 0)
  weighs_or_not i = ⊎_elim (λ lt. inl lt) (λ le. inr (omega (arith, le))) (cases_lt 0 (get_or steps i 0))

  heavy_is : (i : ℕ) → i < n → 0 < get_or steps i 0 → ways_of twice i ≡ second_ways n (ways_of ways i)
  heavy_is i lt pos = d.first i lt ∙ ap (λ b. cond b (second_ways n (ways_of ways i)) (ways_of ways i)) (lt-ltb 0 (get_or steps i 0) pos)

  light_is : (i : ℕ) → i < n → get_or steps i 0 ≡ 0 → ways_of twice i ≡ ways_of ways i
  light_is i lt none = d.first i lt ∙ ap (λ v. cond (ltb 0 v) (second_ways n (ways_of ways i)) (ways_of ways i)) none

  pub from_heavy : (i m : ℕ) → i < n → 0 < get_or steps i 0 → HasWay twice i m → (j : ℕ) × HasWay ways i j × (m ≡ n + j)
  from_heavy i m lt pos g = second_has n (ways_of ways i) m (subst (λ w. Has w m) (heavy_is i lt pos) g)

  pub to_heavy : (i j : ℕ) → i < n → 0 < get_or steps i 0 → HasWay ways i j → HasWay twice i (n + j)
  to_heavy i j lt pos g = subst (λ w. Has w (n + j)) (sym (heavy_is i lt pos)) (has_second n (ways_of ways i) j g)

  pub from_light : (i m : ℕ) → i < n → get_or steps i 0 ≡ 0 → HasWay twice i m → HasWay ways i m
  from_light i m lt none g = subst (λ w. Has w m) (light_is i lt none) g

  pub to_light : (i j : ℕ) → i < n → get_or steps i 0 ≡ 0 → HasWay ways i j → HasWay twice i j
  to_light i j lt none g = subst (λ w. Has w j) (sym (light_is i lt none)) g

  -- they lead to nodes that are there
  pub doubled_inside : AreInside ways → AreInside twice
  doubled_inside inside i m g = by (cases_lt i n)
    where
      there : (j : ℕ) → m ≡ n + j → (x : ℕ) → HasWay ways x j → m < length twice
      there j e x w = let lt = inside x j w in let c = d.count in omega (arith, e, lt, c)

      late : (n ≤ i) → (i < n + n) ⊎ (n + n ≤ i) → m < length twice
      late le (inl lt) =
          let x = i - n in
          let e : i ≡ n + x = omega (arith, le) in
          let s = from_second x m (omega (arith, lt, le)) (subst (λ v. HasWay twice v m) e g) in
          there s.0 s.2 x s.1
      late le (inr far) = let none = get_or_past twice i no_ways (let c = d.count in omega (arith, far, c)) in absurd (nothing m (subst (λ w. Has w m) none g))
        where
          nothing : (m : ℕ) → Has no_ways m → ⊥
          nothing m (inl e) = cc
          nothing m (inr e) = cc

      by : (i < n) ⊎ (n ≤ i) → m < length twice
      by (inl lt) = ⊎_elim
          (λ pos. let s = from_heavy i m lt pos g in there s.0 s.2 i s.1)
          (λ none. let w = inside i m (from_light i m lt none g) in let c = d.count in omega (arith, w, c))
          (weighs_or_not i)
      by (inr le) = late le (cases_lt i (n + n))

  -- ---- a relation on nodes that ways are

  -- steps between nodes, each with what it weighs; walks of such steps by whether something weighs on them
  module _ (inside : AreInside ways) (Goes : (i j k : ℕ) → Type 0) (Comes : (i : ℕ) → Bool → (j : ℕ) → Type 0) (begins : (i : ℕ) → Comes i false i)
      (goes_on : (i : ℕ) (b : Bool) (j x k : ℕ) → Comes i b j → Goes j x k → Comes i (b || ltb 0 k) x)
      (sound : (i j : ℕ) → HasWay ways i j → (k : ℕ) × Goes i j k × (0 < get_or steps i 0 → 0 < k) × (get_or steps i 0 ≡ 0 → k ≡ 0)) where
    -- a first node that has come with nothing, or a second one behind something
    abbrev Stands : (i m : ℕ) → Type 0
    Stands i m = ((m < n) × Comes i false m) ⊎ ((j : ℕ) × (m ≡ n + j) × (j < n) × Comes i true j)

    weighs : (i x : ℕ) (k : ℕ) → 0 < k → Comes i (ltb 0 k) x → Comes i true x
    weighs i x k pos c = subst (λ b. Comes i b x) (lt-ltb 0 k pos) c

    nothing_weighs : (i x : ℕ) (k : ℕ) → k ≡ 0 → Comes i (ltb 0 k) x → Comes i false x
    nothing_weighs i x k none c = subst (λ v. Comes i (ltb 0 v) x) none c

    stands : (i m : ℕ) → i < n → IsReachable twice i m → Stands i m
    stands i m lt reachable_first = inl (lt, begins i)
    stands i m lt (reachable_on x y r g) = by (stands i x lt r)
      where
        by : Stands i x → Stands i y
        by (inl at) = ⊎_elim
            (λ pos.
            let w = from_heavy x y at.0 pos g in
            let s = sound x w.0 w.1 in
            inr (w.0, w.2, inside x w.0 w.1, weighs i w.0 s.0 (s.2 pos) (goes_on i false x w.0 s.0 at.1 s.1)))
            (λ none.
            let w = from_light x y at.0 none g in
            let s = sound x y w in
            inl (inside x y w, nothing_weighs i y s.0 (s.3 none) (goes_on i false x y s.0 at.1 s.1)))
            (weighs_or_not x)
        by (inr at) =
            let w = from_second at.0 y at.2 (subst (λ v. HasWay twice v y) at.1 g) in
            let s = sound at.0 w.0 w.1 in
            inr (w.0, w.2, inside at.0 w.0 w.1, goes_on i true at.0 w.0 s.0 at.3 s.1)

    -- to its second node a first one leads by something that weighs
    pub second_comes : (i : ℕ) → i < n → IsReachable twice i (n + i) → Comes i true i
    second_comes i lt r = by (stands i (n + i) lt r)
      where
        by : Stands i (n + i) → Comes i true i
        by (inl at) = let wrong = at.0 in absurd (omega (arith, wrong))
        by (inr at) = let e = at.1 in let same : at.0 ≡ i = omega (arith, e) in subst (Comes i true) same at.3

  -- what walks of steps come to is reached
  abbrev pub Arrived : (i : ℕ) → Bool → (j : ℕ) → Type 0
  Arrived i true j = IsReachable twice i (n + j)
  Arrived i false j = IsReachable twice i j ⊎ IsReachable twice i (n + j)

  pub arrived : (i : ℕ) (b : Bool) (j x k : ℕ) → j < n → HasWay ways j x → (0 < k → 0 < get_or steps j 0) → Arrived i b j → Arrived i (b || ltb 0 k) x
  arrived i true j x k lt w heavy r = reachable_on (n + j) (n + x) r (to_second j x lt w)
  arrived i false j x k lt w heavy r = by (ltb 0 k) refl r
    where
      by : (b : Bool) → ltb 0 k ≡ b → IsReachable twice i j ⊎ IsReachable twice i (n + j) → Arrived i b x
      by true e (inl at) = reachable_on j (n + x) at (to_heavy j x lt (heavy (ltb-true 0 k e)) w)
      by true e (inr at) = reachable_on (n + j) (n + x) at (to_second j x lt w)
      by false e (inl at) = ⊎_elim (λ pos. inr (reachable_on j (n + x) at (to_heavy j x lt pos w))) (λ none. inl (reachable_on j x at (to_light j x lt none w))) (weighs_or_not j)
      by false e (inr at) = inr (reachable_on (n + j) (n + x) at (to_second j x lt w))
