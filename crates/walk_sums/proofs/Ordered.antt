-- Where nodes stand in an order, none leads back to itself.
use Rattle.std.proofs.Common.{◌≡◌, ℕ, zero, suc, ◌<◌, ◌≤◌, Bool, true, false, ◌||◌, List, [], ◌∷◌, length, get_or, take, cond, refl, sym, subst, arith}
use Rattle.std.specs.Prelude.{◌==◌}
use Rattle.std.proofs.lemmas.Bool.{eqb-true, false≢true}
use Rattle.code_rules.specs.Code.{is_in}
use Rattle.walk_sums.specs.declared.graph.Ways.{Ways}
use Rattle.walk_sums.specs.Graph.{HasWay, IsOrder}
use Rattle.walk_sums.specs.Search.{IsReachable, reachable_first, reachable_on}
use Rattle.walk_sums.specs.Loops.{HasWeighingLoop}
use Rattle.walk_sums.proofs.Looping.{way_inside}

-- the place of a number in a list
abbrev place : ℕ → List ℕ → ℕ
place i [] = 0
place i (x ∷ xs) = cond (x == i) 0 (suc (place i xs))

-- what is in the front stands at an earlier place
front_place : (j : ℕ) (xs : List ℕ) (k : ℕ) → is_in j (take k xs) ≡ true → place j xs < k
front_place j [] zero h = absurd (false≢true h)
front_place j [] (suc k) h = absurd (false≢true h)
front_place j (x ∷ xs) zero h = absurd (false≢true h)
front_place j (x ∷ xs) (suc k) h = by (x == j) h (front_place j xs k)
  where
    by : (b : Bool) → (b || is_in j (take k xs)) ≡ true → (is_in j (take k xs) ≡ true → place j xs < k) → cond b 0 (suc (place j xs)) < suc k
    by true h again = omega arith
    by false h again = let lt = again h in omega (arith, lt)

-- each is at its place
at_place : (i : ℕ) (xs : List ℕ) → is_in i xs ≡ true → (place i xs < length xs) × (get_or xs (place i xs) 0 ≡ i)
at_place i [] h = absurd (false≢true h)
at_place i (x ∷ xs) h = by (x == i) refl h (at_place i xs)
  where
    by : (b : Bool) → (x == i) ≡ b → (b || is_in i xs) ≡ true → (is_in i xs ≡ true → (place i xs < length xs) × (get_or xs (place i xs) 0 ≡ i))
        → (cond b 0 (suc (place i xs)) < suc (length xs)) × (get_or (x ∷ xs) (cond b 0 (suc (place i xs))) 0 ≡ i)
    by true e h again = (omega arith, eqb-true x i e)
    by false e h again = let f = again h in let lt = f.0 in (omega (arith, lt), f.1)

module _ (ways : List Ways) (order : List ℕ) (o : IsOrder ways order) where
  -- each way leads to an earlier place
  earlier : (i j : ℕ) → HasWay ways i j → place j order < place i order
  earlier i j g =
      let f = at_place i order (o.all i (way_inside ways i j g)) in
      front_place j order (place i order) (o.behind (place i order) j f.0 (subst (λ v. HasWay ways v j) (sym f.1) g))

  no_later : (i j : ℕ) → IsReachable ways i j → place j order ≤ place i order
  no_later i j reachable_first = omega arith
  no_later i j (reachable_on k n r g) = let le = no_later i k r in let lt = earlier k j g in omega (arith, le, lt)

  pub no_loop : (steps : List ℕ) → ¬ (HasWeighingLoop ways steps)
  no_loop steps (node, loop) =
      let le = no_later loop.back.next node loop.back.back in
      let lt = earlier node loop.back.next loop.back.goes in
      let wrong : ⊥ = omega (arith, le, lt) in
      wrong
