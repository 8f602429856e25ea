-- The greatest value among the elements that pass a test.
use Rattle.std.proofs.Common.{◌≡◌, ℕ, ◌+◌, ◌<◌, ◌≤◌, Bool, true, false, cond, List, [], ◌∷◌, ◌++◌, length, get_or, take, suc, zero, refl, ap, sym, ◌∙◌, arith}
use Rattle.std.specs.Prelude.{max, map, filter, fold, All}
use Rattle.std.proofs.lemmas.List.{map-append}
use Rattle.std.proofs.lemmas.List.Elements.{filter_more, All-head, All-tail}
use Rattle.std.proofs.lemmas.List.Sums.{fold-append}
use Rattle.std.proofs.Math.Nat.{le-max_left, le-max_right}

module _ {X : Type 0} (p : X → Bool) (f : X → ℕ) where
  abbrev pub greatest_from : ℕ → List X → ℕ
  greatest_from n xs = fold max n (map f (filter p xs))

  abbrev pub next_greatest : X → ℕ → ℕ
  next_greatest x n = cond (p x) (max n (f x)) n

  pub greatest_more : (xs : List X) (i : ℕ) (x : X) → i < length xs → x ≡ get_or xs i x → greatest_from 0 (take (i + 1) xs) ≡ next_greatest x (greatest_from 0 (take i xs))
  greatest_more xs i x h e =
      ap (λ ys. fold max 0 (map f ys)) (filter_more p xs i x h ∙ ap (λ y. filter p (take i xs) ++ cond (p y) (y ∷ []) []) (sym e)) ∙ by (p x) refl
    where
      by : (b : Bool) → p x ≡ b → fold max 0 (map f (filter p (take i xs) ++ cond (p x) (x ∷ []) [])) ≡ next_greatest x (greatest_from 0 (take i xs))
      by true t = rw t (ap (fold max 0) (map-append f (filter p (take i xs)) (x ∷ [])) ∙ fold-append max 0 (map f (filter p (take i xs))) (f x ∷ []))
      by false t = rw t (ap (fold max 0) (map-append f (filter p (take i xs)) []) ∙ fold-append max 0 (map f (filter p (take i xs))) [])

  pub greatest_no_less : (xs : List X) (n : ℕ) → n ≤ greatest_from n xs
  greatest_no_less [] n = omega arith
  greatest_no_less (x ∷ xs) n = by (greatest_no_less xs) (p x) refl
    where
      by : ((m : ℕ) → m ≤ greatest_from m xs) → (b : Bool) → p x ≡ b → n ≤ greatest_from n (x ∷ xs)
      by ih true t = rw t (let a = le-max_left n (f x) in let l = ih (max n (f x)) in omega (arith, a, l))
      by ih false t = rw t (ih n)

  pub greatest_covers : (xs : List X) (n k : ℕ) (d : X) → k < length xs → p (get_or xs k d) ≡ true → f (get_or xs k d) ≤ greatest_from n xs
  greatest_covers [] n k d h t = absurd (omega arith)
  greatest_covers (x ∷ xs) n zero d h t = rw t (let a = le-max_right n (f x) in let l = greatest_no_less xs (max n (f x)) in omega (arith, a, l))
  greatest_covers (x ∷ xs) n (suc k) d h t = by (λ m. greatest_covers xs m k d (omega arith) t) (p x) refl
    where
      by : ((m : ℕ) → f (get_or xs k d) ≤ greatest_from m xs) → (b : Bool) → p x ≡ b → f (get_or xs k d) ≤ greatest_from n (x ∷ xs)
      by ih true e = rw e (ih (max n (f x)))
      by ih false e = rw e (ih n)

  -- where no element passes
  pub greatest_none : (xs : List X) → All (λ x. p x ≡ false) xs → greatest_from 0 xs ≡ 0
  greatest_none [] h = refl
  greatest_none (x ∷ xs) h = rw (All-head (λ y. p y ≡ false) x xs h) (greatest_none xs (All-tail (λ y. p y ≡ false) x xs h))
