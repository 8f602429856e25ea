-- Places of names among names.
use Rattle.std.proofs.Common.{◌≡◌, ◌∙◌, ap, sym, refl, subst, suc, ℕ, ◌<◌, Bool, true, false, cond, List, [], ◌∷◌, length, map, get_or, Option, Some, None, true≢false, arith}
use Rattle.std.specs.Prelude.{◌||◌, position, is_some, unwrap_or, filter}
use Rattle.std.specs.List.{list_any}
use Rattle.std.specs.Str.{bytes_eq}
use Rattle.std.proofs.lemmas.List.Quantifiers.{position-Some}
use Rattle.std.proofs.lemmas.Slice.Eq.{bytes_eq-Decides}
use Rattle.text_pieces.proofs.Places.{position-any}
use Rattle.asm_parse.specs.Operations.{number_of}

-- the place of a name that is there
pub place_of : (names : List (List ℕ)) (name : List ℕ) → list_any (bytes_eq name) names ≡ true → (i : ℕ) × (position (bytes_eq name) names ≡ Some i)
place_of names name h = by (position (bytes_eq name) names) refl
  where
    by : (o : Option ℕ) → position (bytes_eq name) names ≡ o → (i : ℕ) × (position (bytes_eq name) names ≡ Some i)
    by None e = absurd (true≢false (sym h ∙ sym (position-any (bytes_eq name) names) ∙ ap is_some e))
    by (Some i) e = (i, e)

-- at its place stands the name
pub stands : (names : List (List ℕ)) (name : List ℕ) (i : ℕ) (d : List ℕ) → position (bytes_eq name) names ≡ Some i → (i < length names) × (get_or names i d ≡ name)
stands names name i d e = let p = position-Some (bytes_eq name) names i d e in (p.0, sym ((bytes_eq-Decides name (get_or names i d)).0 p.1))

-- the number of a name that is there
pub number_is : (names : List (List ℕ)) (name : List ℕ) (i : ℕ) → position (bytes_eq name) names ≡ Some i → number_of names name ≡ i
number_is names name i e = ap (λ o. unwrap_or o 0) e

pub number_below : (names : List (List ℕ)) (name : List ℕ) → list_any (bytes_eq name) names ≡ true → number_of names name < length names
number_below names name h = let p = place_of names name h in subst (λ n. n < length names) (sym (number_is names name p.0 p.1)) (stands names name p.0 [] p.1).0

-- one of the elements that pass has such a name
pub record IsPlace {X : Type 0} (p q : X → Bool) (xs : List X) : Type 0 where
  pub place : ℕ
  pub within : place < length xs
  pub passes : (d : X) → p (get_or xs place d) ≡ true
  pub found : (d : X) → q (get_or xs place d) ≡ true

pub found_kept : {X Y : Type 0} (p : X → Bool) (f : X → Y) (q : Y → Bool) (xs : List X) → list_any q (map f (filter p xs)) ≡ true → IsPlace p (λ x. q (f x)) xs
found_kept p f q [] e = absurd (true≢false (sym e))
found_kept {X = X} p f q (x ∷ xs) e = by (p x) refl (found_kept p f q xs)
  where
    next : IsPlace p (λ x. q (f x)) xs → IsPlace p (λ x. q (f x)) (x ∷ xs)
    next k = let w = k.within in record { place = suc k.place; within = omega (arith, w); passes = k.passes; found = k.found }

    here : p x ≡ true → (b : Bool) → q (f x) ≡ b → (b || list_any q (map f (filter p xs))) ≡ true → (list_any q (map f (filter p xs)) ≡ true → IsPlace p (λ x. q (f x)) xs)
        → IsPlace p (λ x. q (f x)) (x ∷ xs)
    here t true u e again = record { place = 0; within = omega arith; passes = λ d. t; found = λ d. u }
    here t false u e again = next (again e)

    by : (b : Bool) → p x ≡ b → (list_any q (map f (filter p xs)) ≡ true → IsPlace p (λ x. q (f x)) xs) → IsPlace p (λ x. q (f x)) (x ∷ xs)
    by true t again = here t (q (f x)) refl (ap (λ b. list_any q (map f (cond b (x ∷ filter p xs) (filter p xs)))) (sym t) ∙ e) again
    by false t again = next (again (ap (λ b. list_any q (map f (cond b (x ∷ filter p xs) (filter p xs)))) (sym t) ∙ e))
