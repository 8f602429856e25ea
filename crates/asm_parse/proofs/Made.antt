-- What is made of the elements that pass a test, one element more; and what is read of those that are left, one element less.
use Rattle.std.proofs.Common.{◌≡◌, ◌∙◌, ℕ, suc, ◌+◌, ◌<◌, Bool, cond, List, [], ◌∷◌, ◌++◌, length, get_or, map, take, drop, append_assoc, ap, sym, add-one}
use Rattle.std.specs.Prelude.{filter}
use Rattle.std.proofs.Math.Seq.{drop-cons}
use Rattle.std.proofs.lemmas.List.{map-append}
use Rattle.std.proofs.lemmas.List.Elements.{filter_more}

module _ {X Y : Type 0} (p : X → Bool) (f : X → Y) (xs : List X) (i : ℕ) (x : X) where
  pub made_more : i < length xs → x ≡ get_or xs i x → map f (filter p (take i xs)) ++ map f (filter p (x ∷ [])) ≡ map f (filter p (take (i + 1) xs))
  made_more within at =
      sym (ap (map f) (filter_more p xs i x within ∙ ap (λ y. filter p (take i xs) ++ cond (p y) (y ∷ []) []) (sym at))
      ∙ map-append f (filter p (take i xs)) (cond (p x) (x ∷ []) []))

-- the first one is read as `added`, and those behind it by `next`
module _ {X Y : Type 0} (read next : List X → List Y) (old new added whole : List Y) (xs : List X) (i : ℕ) (x : X) where
  pub read_one : i < length xs → x ≡ get_or xs i x → read (x ∷ drop (i + 1) xs) ≡ added ++ next (drop (i + 1) xs) → new ≡ old ++ added
      → old ++ read (drop i xs) ≡ whole → new ++ next (drop (i + 1) xs) ≡ whole
  read_one within at reads grown before =
      let split : drop i xs ≡ x ∷ drop (i + 1) xs = rw add-one (drop-cons xs i x within ∙ ap (λ y. y ∷ drop (suc i) xs) (sym at)) in
      ap (λ l. l ++ next (drop (i + 1) xs)) grown ∙ append_assoc old added (next (drop (i + 1) xs))
      ∙ ap (λ l. old ++ l) (sym (ap read split ∙ reads)) ∙ before
