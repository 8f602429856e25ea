-- Lists that are made by a test and a map.
use Rattle.std.proofs.Common.{◌≡◌, ◌∙◌, ℕ, ◌<◌, ◌≤◌, ◌+◌, Bool, true, false, cond, Some, List, [], ◌∷◌, ◌++◌, length, take, get_or, suc, zero, refl, ap, sym, subst, add-one, append-nil, arith}
use Rattle.std.specs.Prelude.{◌||◌, All, AllPairs, map, filter, find}
use Rattle.std.specs.List.{list_any}
use Rattle.std.proofs.lemmas.List.{map-append}
use Rattle.std.proofs.lemmas.List.Elements.{All-head, All-tail, filter_more}
use Rattle.std.proofs.lemmas.List.Quantifiers.{all_pairs_push}
use Rattle.std.proofs.Math.Seq.{take-length}
use Rattle.text_pieces.proofs.Tests.{All-kept}

module _ {X : Type 0} (p : X → Bool) where
  -- what holds of each element holds of the one that is found
  pub found_has : (P : X → Type 0) (xs : List X) (x : X) → find p xs ≡ Some x → All P xs → P x
  found_has P [] x e h = cc
  found_has P (y ∷ xs) x e h = by (found_has P xs x) (p y) refl
    where
      by : (find p xs ≡ Some x → All P xs → P x) → (b : Bool) → p y ≡ b → P x
      by ih true t = let q : y ≡ x = some_inside y x (ap (λ b. cond b (Some y) (find p xs)) (sym t) ∙ e) in subst P q (All-head P y xs h)
        where
          some_inside : (a b : X) → Some a ≡ Some b → a ≡ b
          some_inside a b e = cc
      by ih false t = ih (ap (λ b. cond b (Some y) (find p xs)) (sym t) ∙ e) (All-tail P y xs h)

  -- the first element that passes
  pub record IsFirst (xs : List X) : Type 0 where
    pub place : ℕ
    pub item : X
    pub within : place < length xs
    pub stands : get_or xs place item ≡ item
    pub passes : p item ≡ true
    pub found : find p xs ≡ Some item
    pub none_before : list_any p (take place xs) ≡ false

  pub first_of : (xs : List X) → list_any p xs ≡ true → IsFirst xs
  first_of [] e = cc
  first_of (x ∷ xs) e = by (first_of xs) (p x) refl
    where
      by : (list_any p xs ≡ true → IsFirst xs) → (b : Bool) → p x ≡ b → IsFirst (x ∷ xs)
      by ih true t = record { place = 0; item = x; within = omega arith; stands = refl; passes = t; found = ap (λ b. cond b (Some x) (find p xs)) t; none_before = refl }
      by ih false t =
          let f = ih (ap (λ b. b || list_any p xs) (sym t) ∙ e) in
          let w = f.within in
          record {
            place = suc f.place;
            item = f.item;
            within = omega (arith, w);
            stands = f.stands;
            passes = f.passes;
            found = ap (λ b. cond b (Some x) (find p xs)) t ∙ f.found;
            none_before = ap (λ b. b || list_any p (take f.place xs)) t ∙ f.none_before;
          }

  module _ {Y : Type 0} (f : X → Y) where
    module _ (R : Y → Y → Type 0) (xs : List X)
        (rule : (i : ℕ) (d : X) → i < length xs → p (get_or xs i d) ≡ true → All (λ x. p x ≡ true → R (f x) (f (get_or xs i d))) (take i xs)) where
      pairs_before : (i : ℕ) (d : X) → i ≤ length xs → AllPairs R (map f (filter p (take i xs)))
      pairs_before zero d h = λ i j c l k. absurd (omega arith)
      pairs_before (suc i) d h = rw add-one at (by (p (get_or xs i d)) refl (pairs_before i d (omega arith)))
        where
          within : i < length xs
          within = omega arith

          by : (b : Bool) → p (get_or xs i d) ≡ b → AllPairs R (map f (filter p (take i xs))) → AllPairs R (map f (filter p (take (i + 1) xs)))
          by true t ih =
              let x = get_or xs i d in
              let m = filter_more p xs i d within ∙ ap (λ b. filter p (take i xs) ++ cond b (x ∷ []) []) t in
              subst (λ ys. AllPairs R (map f ys)) (sym m)
              (subst (AllPairs R) (sym (map-append f (filter p (take i xs)) (x ∷ [])))
              (all_pairs_push R (map f (filter p (take i xs))) (f x) ih (λ k c l. All-kept p f (λ y. R y (f x)) (take i xs) (rule i d within t) k c l)))
          by false t ih =
              let x = get_or xs i d in
              let m = filter_more p xs i d within ∙ ap (λ b. filter p (take i xs) ++ cond b (x ∷ []) []) t in
              subst (λ ys. AllPairs R (map f ys)) (sym m)
              (subst (AllPairs R) (sym (map-append f (filter p (take i xs)) [])) (rw append-nil ih))

      pub pairs_kept : X → AllPairs R (map f (filter p xs))
      pairs_kept d = subst (λ ys. AllPairs R (map f (filter p ys))) (take-length xs) (pairs_before (length xs) d (omega arith))
