-- Sums that stay within a limit, and names that stay apart, along a list.
use Rattle.std.proofs.Common.{◌≡◌, ◌∙◌, ap, sym, refl, subst, ◌⊎◌, inl, inr, ⊎_elim, zero, suc, ℕ, ◌+◌, ◌<◌, ◌≤◌, Bool, true, false, cond, List, [], ◌∷◌, ◌++◌, length, map, take, get_or, true≢false, add-one, append-nil, arith}
use Rattle.std.specs.Prelude.{◌≢◌, All, AllPairs, filter}
use Rattle.std.specs.List.{list_any, sum_by}
use Rattle.std.specs.Str.{bytes_eq}
use Rattle.std.proofs.lemmas.Bool.{cases_lt}
use Rattle.std.proofs.lemmas.List.{map-append}
use Rattle.std.proofs.lemmas.List.Elements.{All-head, All-tail, filter_more}
use Rattle.std.proofs.lemmas.List.Quantifiers.{all_pairs_push}
use Rattle.std.proofs.lemmas.List.Sums.{sum_by-cons, sum_by_more}
use Rattle.std.proofs.lemmas.Slice.Eq.{bytes_eq-Decides}
use Rattle.std.proofs.Math.Seq.{take-length}
use Rattle.text_pieces.proofs.Tests.{none_pass}

-- ---- sums

module _ {X : Type 0} (w : X → ℕ) (base limit : ℕ) (xs : List X) (d : X)
    (step : (i : ℕ) → i < length xs → base + sum_by w (take i xs) ≤ limit → base + sum_by w (take i xs) + w (get_or xs i d) ≤ limit) where
  upto : (i : ℕ) → i ≤ length xs → base ≤ limit → base + sum_by w (take i xs) ≤ limit
  upto zero h b = omega (arith, b)
  upto (suc i) h b = rw add-one at (more (upto i (omega arith) b))
    where
      more : base + sum_by w (take i xs) ≤ limit → base + sum_by w (take (i + 1) xs) ≤ limit
      more p = let m = sum_by_more w xs i d (omega arith) in let s = step i (omega arith) p in omega (arith, m, s)

  -- Where no element brings a sum within the limit above it, the whole is within it.
  pub within : base ≤ limit → base + sum_by w xs ≤ limit
  within b = subst (λ ys. base + sum_by w ys ≤ limit) (take-length xs) (upto (length xs) (omega arith) b)

module _ {X Y : Type 0} (f : X → Y) (g : Y → ℕ) (w : X → ℕ) where
  pub sum_mapped : (xs : List X) → All (λ x. g (f x) ≡ w x) xs → sum_by g (map f xs) ≡ sum_by w xs
  sum_mapped [] h = refl
  sum_mapped (x ∷ xs) h =
      let a = sum_by-cons g (f x) (map f xs) in
      let b = sum_by-cons w x xs in
      let e = All-head (λ x. g (f x) ≡ w x) x xs h in
      let r = sum_mapped xs (All-tail (λ x. g (f x) ≡ w x) x xs h) in
      omega (arith, a, b, e, r)

  module _ (p : X → Bool) where
    pub sum_kept : (xs : List X) → All (λ x. (p x ≡ true → g (f x) ≡ w x) × (p x ≡ false → w x ≡ 0)) xs → sum_by g (map f (filter p xs)) ≡ sum_by w xs
    sum_kept [] h = refl
    sum_kept (x ∷ xs) h = by (p x) refl (All-head (λ x. (p x ≡ true → g (f x) ≡ w x) × (p x ≡ false → w x ≡ 0)) x xs h)
        (sum_kept xs (All-tail (λ x. (p x ≡ true → g (f x) ≡ w x) × (p x ≡ false → w x ≡ 0)) x xs h))
      where
        by : (b : Bool) → p x ≡ b → (p x ≡ true → g (f x) ≡ w x) × (p x ≡ false → w x ≡ 0) → sum_by g (map f (filter p xs)) ≡ sum_by w xs
            → sum_by g (map f (filter p (x ∷ xs))) ≡ sum_by w (x ∷ xs)
        by true t h r =
            let a = sum_by-cons g (f x) (map f (filter p xs)) in
            let b = sum_by-cons w x xs in
            let e = h.0 t in
            rw t (omega (arith, a, b, e, r))
        by false t h r = let b = sum_by-cons w x xs in let e = h.1 t in rw t (omega (arith, b, e, r))

-- ---- names

-- names that differ from one another
abbrev pub Apart : List (List ℕ) → Type 0
Apart names = AllPairs (λ a b. a ≢ b) names

-- names, or the same and one that is none of them
abbrev Grows : List (List ℕ) → List (List ℕ) → Type 0
Grows xs ys = (ys ≡ xs) ⊎ ((y : List ℕ) × (ys ≡ xs ++ y ∷ []) × (list_any (bytes_eq y) xs ≡ false))

grown : (G : ℕ → List (List ℕ)) (n : ℕ) → G 0 ≡ [] → ((i : ℕ) → i < n → Grows (G i) (G (i + 1))) → Apart (G n)
grown G zero e s = subst Apart (sym e) (λ i j d h k. absurd (omega arith))
grown G (suc n) e s = rw add-one at (by (s n (omega arith)) (grown G n e (λ i h. s i (omega (arith, h)))))
  where
    by : Grows (G n) (G (n + 1)) → Apart (G n) → Apart (G (n + 1))
    by (inl q) a = subst Apart (sym q) a
    by (inr q) a =
        subst Apart (sym q.1) (all_pairs_push (λ a b. a ≢ b) (G n) q.0 a
        (λ k d h same. true≢false (sym ((bytes_eq-Decides q.0 (get_or (G n) k d)).1 (sym same)) ∙ none_pass (bytes_eq q.0) (G n) q.2 k d h)))

module _ {X : Type 0} (p : X → Bool) (f : X → List ℕ) (xs : List X) where
  abbrev pub kept : ℕ → List (List ℕ)
  kept i = map f (filter p (take i xs))

  grows : (i : ℕ) (d : X) → i < length xs → (p (get_or xs i d) ≡ true → list_any (bytes_eq (f (get_or xs i d))) (kept i) ≡ false) → Grows (kept i) (kept (i + 1))
  grows i d h rule = by (p (get_or xs i d)) refl
    where
      by : (b : Bool) → p (get_or xs i d) ≡ b → Grows (kept i) (kept (i + 1))
      by true t = inr (
        f (get_or xs i d),
        ap (map f) (filter_more p xs i d h ∙ ap (λ b. filter p (take i xs) ++ cond b (get_or xs i d ∷ []) []) t) ∙ map-append f (filter p (take i xs)) (get_or xs i d ∷ []),
        rule t,
      )
      by false t = inl (ap (map f) (filter_more p xs i d h ∙ ap (λ b. filter p (take i xs) ++ cond b (get_or xs i d ∷ []) []) t ∙ append-nil (filter p (take i xs))))

  -- Of the elements that pass, each has another name than those before it.
  pub kept_apart : (d : X) → ((i : ℕ) → i < length xs → p (get_or xs i d) ≡ true → list_any (bytes_eq (f (get_or xs i d))) (kept i) ≡ false) → Apart (map f (filter p xs))
  kept_apart d rule = subst (λ ys. Apart (map f (filter p ys))) (take-length xs) (grown kept (length xs) refl (λ i h. grows i d h (rule i h)))

pub keep_all : {X : Type 0} (xs : List X) → filter (λ x. true) xs ≡ xs
keep_all [] = refl
keep_all (x ∷ xs) = ap (λ ys. x ∷ ys) (keep_all xs)

pub all_apart : {X : Type 0} (f : X → List ℕ) (xs : List X) (d : X) → ((i : ℕ) → i < length xs → list_any (bytes_eq (f (get_or xs i d))) (map f (take i xs)) ≡ false) → Apart (map f xs)
all_apart f xs d rule = subst (λ ys. Apart (map f ys)) (keep_all xs)
    (kept_apart (λ x. true) f xs d (λ i h t. subst (λ ys. list_any (bytes_eq (f (get_or xs i d))) (map f ys) ≡ false) (sym (keep_all (take i xs))) (rule i h)))

-- two places of one name are one
pub same_place : (names : List (List ℕ)) → Apart names → (i j : ℕ) (d : List ℕ) → i < length names → j < length names → get_or names i d ≡ get_or names j d → i ≡ j
same_place names a i j d h k e = ⊎_elim (λ l. absurd (a i j d l k e)) (λ l. ⊎_elim (λ m. absurd (a j i d m h (sym e))) (λ m. omega (arith, l, m)) (cases_lt j i)) (cases_lt i j)
