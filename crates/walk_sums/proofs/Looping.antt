-- Loops along which something weighs: trails of any size, or a limit of all trails.
use Rattle.std.proofs.Common.{◌≡◌, ℕ, zero, suc, ◌+◌, ◌<◌, ◌≤◌, ◌⊎◌, inl, inr, List, [], ◌∷◌, ◌++◌, length, get_or, cond, None, Some, refl, ap, sym, ◌∙◌, subst, arith, ⊎_elim}
use Rattle.std.specs.Prelude.{◌==◌}
use Rattle.std.proofs.lemmas.Bool.{cases_eq, cases_lt, eq-eqb, ne_eqb}
use Rattle.std.proofs.lemmas.List.{get_or_past}
use Rattle.call_graph.specs.Tables.{sum_below}
use Rattle.walk_sums.specs.declared.graph.Ways.{Ways}
use Rattle.walk_sums.specs.Graph.{no_ways, ways_of, HasWay}
use Rattle.walk_sums.specs.Search.{IsReachable, reachable_first, reachable_on}
use Rattle.walk_sums.specs.Trails.{IsTrail, last_of}
use Rattle.walk_sums.specs.Loops.{IsWeighingLoop, HasWeighingLoop}

-- what the nodes of a trail weigh that it goes on from
abbrev pub steps_along : (steps : List ℕ) → ℕ → List ℕ → ℕ
steps_along steps i [] = 0
steps_along steps i (j ∷ further) = get_or steps i 0 + steps_along steps j further

-- ---- trails behind one another

module _ (ways : List Ways) where
  pub joined_trail : (i : ℕ) (front back : List ℕ) → IsTrail ways i front → IsTrail ways (last_of i front) back → IsTrail ways i (front ++ back)
  joined_trail i [] back a b = b
  joined_trail i (j ∷ front) back a b = (a.0, joined_trail j front back a.1 b)

  pub reached_trail : (first j : ℕ) → IsReachable ways first j → (further : List ℕ) × IsTrail ways first further × (last_of first further ≡ j)
  reached_trail first j reachable_first = ([], tt, refl)
  reached_trail first j (reachable_on i k r goes) =
      let front = reached_trail first i r in
      let one : IsTrail ways (last_of first front.0) (j ∷ []) = (subst (λ v. HasWay ways v j) (sym front.2) goes, tt) in
      (front.0 ++ j ∷ [], joined_trail first front.0 (j ∷ []) front.1 one, joined_last first front.0 j)
    where
      joined_last : (i : ℕ) (front : List ℕ) (j : ℕ) → last_of i (front ++ j ∷ []) ≡ j
      joined_last i [] j = refl
      joined_last i (k ∷ front) j = joined_last k front j

  pub trail_reached : (first : ℕ) (further : List ℕ) (i : ℕ) → IsReachable ways first i → IsTrail ways i further → IsReachable ways first (last_of i further)
  trail_reached first [] i r t = r
  trail_reached first (j ∷ further) i r t = trail_reached first further j (reachable_on i j r t.0) t.1

last_joined : (i : ℕ) (front back : List ℕ) → last_of i (front ++ back) ≡ last_of (last_of i front) back
last_joined i [] back = refl
last_joined i (j ∷ front) back = last_joined j front back

steps_joined : (steps : List ℕ) (i : ℕ) (front back : List ℕ) → steps_along steps i (front ++ back) ≡ steps_along steps i front + steps_along steps (last_of i front) back
steps_joined steps i [] back = omega arith
steps_joined steps i (j ∷ front) back = let e = steps_joined steps j front back in omega (arith, e)

-- ---- round a loop

-- a trail from a node back to it that weighs so much at least
pub record Rounds (ways : List Ways) (steps : List ℕ) (node n : ℕ) : Type 0 where
  pub further : List ℕ
  pub trail : IsTrail ways node further
  pub back : last_of node further ≡ node
  pub weighs : n ≤ steps_along steps node further

module _ (ways : List Ways) (steps : List ℕ) (node : ℕ) (loop : IsWeighingLoop ways steps node) where
  once : Rounds ways steps node 1
  once =
      let back = loop.back in
      let rest = reached_trail ways back.next node back.back in
      let some = loop.weighs in
      record { further = back.next ∷ rest.0; trail = (back.goes, rest.1); back = rest.2; weighs = omega (arith, some) }

  pub rounds : (n : ℕ) → Rounds ways steps node n
  rounds zero = record { further = []; trail = tt; back = refl; weighs = omega arith }
  rounds (suc n) =
      let one = once in
      let more = rounds n in
      let a = one.weighs in
      let b = more.weighs in
      let s = steps_joined steps node one.further more.further in
      let same : steps_along steps (last_of node one.further) more.further ≡ steps_along steps node more.further = ap (λ v. steps_along steps v more.further) one.back in
      record {
        further = one.further ++ more.further;
        trail = joined_trail ways node one.further more.further one.trail (subst (λ v. IsTrail ways v more.further) (sym one.back) more.trail);
        back = last_joined node one.further more.further ∙ ap (λ v. last_of v more.further) one.back ∙ more.back;
        weighs = omega (arith, a, b, s, same);
      }

-- ---- no loop: a limit

-- what node k adds to a trail from node i
abbrev pub adds : (steps : List ℕ) (k i : ℕ) → List ℕ → ℕ
adds steps k i [] = 0
adds steps k i (j ∷ further) = cond (k == i) (get_or steps k 0 + adds steps k j further) (adds steps k j further)

adds_here : (steps : List ℕ) (k i j : ℕ) (further : List ℕ) → k ≡ i → adds steps k i (j ∷ further) ≡ get_or steps k 0 + adds steps k j further
adds_here steps k i j further e = ap (λ b. cond b (get_or steps k 0 + adds steps k j further) (adds steps k j further)) (eq-eqb k i e)

adds_apart : (steps : List ℕ) (k i j : ℕ) (further : List ℕ) → (k ≡ i → ⊥) → adds steps k i (j ∷ further) ≡ adds steps k j further
adds_apart steps k i j further n = ap (λ b. cond b (get_or steps k 0 + adds steps k j further) (adds steps k j further)) (ne_eqb k i n)

-- a sum with one part more
one_more : (f g : ℕ → ℕ) (at part : ℕ) → ((k : ℕ) → k ≡ at → g k ≡ part + f k) → ((k : ℕ) → (k ≡ at → ⊥) → g k ≡ f k) → (n : ℕ)
    → (at < n → sum_below n g ≡ part + sum_below n f) × (n ≤ at → sum_below n g ≡ sum_below n f)
one_more f g at part here apart zero = (λ lt. absurd (let wrong : ⊥ = omega (arith, lt) in wrong), λ le. refl)
one_more f g at part here apart (suc n) =
    let again = one_more f g at part here apart n in
    ⊎_elim
    (λ e.
    let same = again.1 (omega (arith, e)) in
    let last = here n e in
    (λ lt. omega (arith, same, last), λ le. absurd (let wrong : ⊥ = omega (arith, le, e) in wrong)))
    (λ d.
    let last = apart n d in
    (λ lt. let more = again.0 (omega (arith, lt, d)) in omega (arith, more, last), λ le. let same = again.1 (omega (arith, le)) in omega (arith, same, last)))
    (cases_eq n at)

no_sum : (n : ℕ) → sum_below n (λ k. 0) ≡ 0
no_sum zero = refl
no_sum (suc n) = let e = no_sum n in omega (arith, e)

-- sums of parts that are no greater
no_greater : (f g : ℕ → ℕ) → ((k : ℕ) → f k ≤ g k) → (n : ℕ) → sum_below n f ≤ sum_below n g
no_greater f g le zero = omega arith
no_greater f g le (suc n) = let more = no_greater f g le n in let last = le n in omega (arith, more, last)

module _ (ways : List Ways) where
  pub way_inside : (i j : ℕ) → HasWay ways i j → i < length ways
  way_inside i j goes = ⊎_elim (λ lt. lt) (λ le. absurd (none (get_or_past ways i no_ways le) goes)) (cases_lt i (length ways))
    where
      none : ways_of ways i ≡ no_ways → HasWay ways i j → ⊥
      none e (inl is) = let n : None ≡ Some j = sym (ap (λ (w : Ways). w.next) e) ∙ is in absurd cc
      none e (inr is) = let n : None ≡ Some j = sym (ap (λ (w : Ways). w.jump) e) ∙ is in absurd cc

  before_reached : (i j k : ℕ) → HasWay ways i j → IsReachable ways j k → IsReachable ways i k
  before_reached i j k goes reachable_first = reachable_on i j reachable_first goes
  before_reached i j k goes (reachable_on m n r way) = reachable_on m n (before_reached i j m goes r) way

module _ (ways : List Ways) (steps : List ℕ) where
  -- the steps of a trail are what its nodes add
  steps_are : (n : ℕ) → length ways ≤ n → (i : ℕ) (further : List ℕ) → IsTrail ways i further → steps_along steps i further ≡ sum_below n (λ k. adds steps k i further)
  steps_are n le i [] t = sym (no_sum n)
  steps_are n le i (j ∷ further) t =
      let again = steps_are n le j further t.1 in
      let inside = way_inside ways i j t.0 in
      let sum =
      (one_more (λ k. adds steps k j further) (λ k. adds steps k i (j ∷ further)) i (get_or steps i 0)
      (λ k e. adds_here steps k i j further e ∙ ap (λ v. get_or steps v 0 + adds steps k j further) e) (λ k d. adds_apart steps k i j further d) n).0
      (omega (arith, inside, le)) in
      omega (arith, again, sum)

  -- what adds something is reached and weighs something
  pub record Adds (i k : ℕ) : Type 0 where
    pub reached : IsReachable ways i k
    pub weighs : 0 < get_or steps k 0

  added : (k i : ℕ) (further : List ℕ) → IsTrail ways i further → 0 < adds steps k i further → Adds i k
  added k i [] t lt = absurd (let wrong : ⊥ = omega (arith, lt) in wrong)
  added k i (j ∷ further) t lt = by (cases_eq k i) (cases_eq (adds steps k j further) 0) (λ pos. added k j further t.1 pos)
    where
      by : (k ≡ i) ⊎ (k ≡ i → ⊥) → (adds steps k j further ≡ 0) ⊎ (adds steps k j further ≡ 0 → ⊥) → (0 < adds steps k j further → Adds j k) → Adds i k
      by (inl e) (inl z) again =
          let is = adds_here steps k i j further e in
          record { reached = subst (IsReachable ways i) (sym e) reachable_first; weighs = omega (arith, lt, is, z) }
      by (inr d) (inl z) again = absurd (let is = adds_apart steps k i j further d in let wrong : ⊥ = omega (arith, lt, is, z) in wrong)
      by same (inr n) again = let a = again (omega (arith, n)) in record { reached = before_reached ways i j k t.0 a.reached; weighs = a.weighs }

  module _ (none : ¬ (HasWeighingLoop ways steps)) where
    -- without a loop no node adds more than it weighs
    adds_once : (k i : ℕ) (further : List ℕ) → IsTrail ways i further → adds steps k i further ≤ get_or steps k 0
    adds_once k i [] t = omega arith
    adds_once k i (j ∷ further) t = by (cases_eq k i) (cases_eq (adds steps k j further) 0) (adds_once k j further t.1)
      where
        by : (k ≡ i) ⊎ (k ≡ i → ⊥) → (adds steps k j further ≡ 0) ⊎ (adds steps k j further ≡ 0 → ⊥) → adds steps k j further ≤ get_or steps k 0
            → adds steps k i (j ∷ further) ≤ get_or steps k 0
        by (inl e) (inl z) le = let is = adds_here steps k i j further e in omega (arith, is, z)
        by (inl e) (inr n) le =
            let a = added k j further t.1 (omega (arith, n)) in
            let goes : HasWay ways k j = subst (λ v. HasWay ways v j) (sym e) t.0 in
            absurd (none (k, record { inside = way_inside ways k j goes; weighs = a.weighs; back = record { next = j; goes = goes; back = a.reached } }))
        by (inr d) z le = let is = adds_apart steps k i j further d in omega (arith, is, le)

    -- so no trail weighs more than all nodes
    pub steps_limited : (i : ℕ) (further : List ℕ) → IsTrail ways i further → steps_along steps i further ≤ sum_below (length ways) (λ k. get_or steps k 0)
    steps_limited i further t =
        let is = steps_are (length ways) (omega arith) i further t in
        let le = no_greater (λ k. adds steps k i further) (λ k. get_or steps k 0) (λ k. adds_once k i further t) (length ways) in
        omega (arith, is, le)
