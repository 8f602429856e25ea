-- The names of what passes a test, one element more.
use Rattle.std.proofs.Common.{◌≡◌, ◌∙◌, ℕ, ◌+◌, ◌<◌, Bool, true, false, cond, List, [], ◌∷◌, ◌++◌, length, get_or, map, take, append-nil, ap, sym}
use Rattle.std.specs.Prelude.{filter}
use Rattle.std.proofs.lemmas.List.{map-append}
use Rattle.std.proofs.lemmas.List.Elements.{filter_more}

module _ {X : Type 0} (p : X → Bool) (f : X → List ℕ) (xs : List X) (i : ℕ) (x : X) (names : List (List ℕ)) where
  one_more : i < length xs → x ≡ get_or xs i x → map f (filter p (take (i + 1) xs)) ≡ map f (filter p (take i xs)) ++ map f (cond (p x) (x ∷ []) [])
  one_more within at =
      ap (map f) (filter_more p xs i x within ∙ ap (λ y. filter p (take i xs) ++ cond (p y) (y ∷ []) []) (sym at))
      ∙ map-append f (filter p (take i xs)) (cond (p x) (x ∷ []) [])

  -- it passes, and its name comes behind those before it
  pub passes : i < length xs → x ≡ get_or xs i x → p x ≡ true → names ≡ map f (filter p (take i xs)) → names ++ f x ∷ [] ≡ map f (filter p (take (i + 1) xs))
  passes within at e before =
      ap (λ n. n ++ f x ∷ []) before ∙ sym (one_more within at ∙ ap (λ b. map f (filter p (take i xs)) ++ map f (cond b (x ∷ []) [])) e)

  -- it does not
  pub fails : i < length xs → x ≡ get_or xs i x → p x ≡ false → names ≡ map f (filter p (take i xs)) → names ≡ map f (filter p (take (i + 1) xs))
  fails within at e before =
      before
      ∙ sym (one_more within at ∙ ap (λ b. map f (filter p (take i xs)) ++ map f (cond b (x ∷ []) [])) e ∙ append-nil (map f (filter p (take i xs))))
