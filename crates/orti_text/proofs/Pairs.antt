-- What holds of each two elements of a list.
use Rattle.std.proofs.Common.{◌≡◌, zero, suc, List, [], ◌∷◌, ◌++◌, All, AllPairs, arith, get_or, map, subst, sym}
use Rattle.std.proofs.lemmas.List.{get_or-map, length-map}
use Rattle.std.proofs.lemmas.List.Elements.{All-append}

module _ {X : Type 0} (R : X → X → Type 0) where
  pub pairs_one : (x : X) → AllPairs R (x ∷ [])
  pairs_one x i j d before inside = absurd (omega (arith, before, inside))

  pub pairs_cons : (x : X) (xs : List X) → All (R x) xs → AllPairs R xs → AllPairs R (x ∷ xs)
  pairs_cons x xs first rest zero zero d before inside = absurd (omega (arith, before))
  pairs_cons x xs first rest zero (suc j) d before inside = first j d (omega (arith, inside))
  pairs_cons x xs first rest (suc i) zero d before inside = absurd (omega (arith, before))
  pairs_cons x xs first rest (suc i) (suc j) d before inside = rest i j d (omega (arith, before)) (omega (arith, inside))

  pub pairs_append : (xs ys : List X) → AllPairs R xs → AllPairs R ys → All (λ x. All (R x) ys) xs → AllPairs R (xs ++ ys)
  pairs_append [] ys p q across = q
  pairs_append (x ∷ xs) ys p q across =
      pairs_cons x (xs ++ ys) (All-append (R x) xs ys (λ k d inside. p zero (suc k) d (omega arith) (omega (arith, inside))) (across zero x (omega arith)))
      (pairs_append xs ys (λ i j d before inside. p (suc i) (suc j) d (omega (arith, before)) (omega (arith, inside))) q
      (λ k d inside. across (suc k) d (omega (arith, inside))))

module _ {X Y : Type 0} (R : Y → Y → Type 0) (f : X → Y) where
  pub pairs_map : (xs : List X) → AllPairs (λ a b. R (f a) (f b)) xs → AllPairs R (map f xs)
  pairs_map [] h i j d before inside = absurd (omega (arith, inside))
  pairs_map (x ∷ xs) h i j d before inside =
      let all : List X = x ∷ xs in
      let long = length-map all f in
      let a : f (get_or all i x) ≡ get_or (map f all) i d = sym (get_or-map f all i x d (omega (arith, before, inside, long))) in
      let b : f (get_or all j x) ≡ get_or (map f all) j d = sym (get_or-map f all j x d (omega (arith, inside, long))) in
      subst (λ y. R y (get_or (map f all) j d)) a (subst (λ y. R (f (get_or all i x)) y) b (h i j x before (omega (arith, inside, long))))

  pub pairs_unmap : (xs : List X) → AllPairs R (map f xs) → AllPairs (λ a b. R (f a) (f b)) xs
  pairs_unmap xs h i j d before inside =
      let long = length-map xs f in
      let a : get_or (map f xs) i (f d) ≡ f (get_or xs i d) = get_or-map f xs i d (f d) (omega (arith, before, inside)) in
      let b : get_or (map f xs) j (f d) ≡ f (get_or xs j d) = get_or-map f xs j d (f d) inside in
      subst (λ y. R y (f (get_or xs j d))) a (subst (λ y. R (get_or (map f xs) i (f d)) y) b (h i j (f d) before (omega (arith, inside, long))))
