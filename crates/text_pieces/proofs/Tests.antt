-- Tests, and what passes them in a list or in a set.
use Rattle.std.proofs.Common.{◌≡◌, ◌∙◌, ⊎_elim, Bool, true, false, cond, List, [], ◌∷◌, ◌++◌, map, refl, ap, sym, true≢false}
use Rattle.std.specs.Prelude.{◌||◌, ◌&&◌, not, All, filter}
use Rattle.std.specs.List.{list_any}
use Rattle.std.proofs.lemmas.List.Elements.{All-nil, All-cons, All-map, All-filter, filter_passes}
use Rattle.std.proofs.lemmas.List.Folds.{list_any-append}
use Rattle.std.proofs.lemmas.Bool.{and_from, or_right, or_left, or_cases, or_parts}
use mathlib.Core.Bool.{or-false}
use Rattle.indexmap.specs.IndexSet.{insert_key}

pub or_absorbs : (a b : Bool) → (b ≡ true → a ≡ true) → (a || b) ≡ a
or_absorbs true b f = refl
or_absorbs false true f = sym (f refl)
or_absorbs false false f = refl

pub and_swap : (a b : Bool) → (a && b) ≡ (b && a)
and_swap true true = refl
and_swap true false = refl
and_swap false true = refl
and_swap false false = refl

module _ {X : Type 0} (p q : X → Bool) where
  -- what one test passes another does
  pub any_implies : ((x : X) → p x ≡ true → q x ≡ true) → (xs : List X) → list_any p xs ≡ true → list_any q xs ≡ true
  any_implies f [] h = cc
  any_implies f (x ∷ xs) h =
      ⊎_elim (λ e. or_left (q x) (list_any q xs) (f x e)) (λ e. or_right (q x) (list_any q xs) (any_implies f xs e)) (or_cases (p x) (list_any p xs) h)

  -- one passes, and none that fails the other test
  pub any_but : (xs : List X) → list_any p xs ≡ false → list_any q xs ≡ true → list_any (λ x. not (p x) && q x) xs ≡ true
  any_but [] n h = cc
  any_but (x ∷ xs) n h = by (p x) refl (any_but xs)
    where
      by : (b : Bool) → p x ≡ b → (list_any p xs ≡ false → list_any q xs ≡ true → list_any (λ y. not (p y) && q y) xs ≡ true) → list_any (λ y. not (p y) && q y) (x ∷ xs) ≡ true
      by true e again = absurd (true≢false (sym (ap (λ c. c || list_any p xs) e) ∙ n))
      by false e again =
          let rest : list_any p xs ≡ false = sym (ap (λ c. c || list_any p xs) e) ∙ n in
          ⊎_elim
          (λ t. or_left (not (p x) && q x) _ (and_from (not (p x)) (q x) (ap not e) t))
          (λ t. or_right (not (p x) && q x) _ (again rest t))
          (or_cases (q x) (list_any q xs) h)

pub any_none : {X : Type 0} (p : X → Bool) → ((x : X) → p x ≡ false) → (xs : List X) → list_any p xs ≡ false
any_none p f [] = refl
any_none p f (x ∷ xs) = ap (λ b. b || list_any p xs) (f x) ∙ any_none p f xs

pub none_pass : {X : Type 0} (p : X → Bool) (xs : List X) → list_any p xs ≡ false → All (λ x. p x ≡ false) xs
none_pass p [] e = All-nil (λ x. p x ≡ false)
none_pass p (x ∷ xs) e = All-cons (λ x. p x ≡ false) x xs (or_parts (p x) (list_any p xs) e).0 (none_pass p xs (or_parts (p x) (list_any p xs) e).1)

-- what holds of each that passes holds of all that are kept
pub All-kept : {X Y : Type 0} (p : X → Bool) (f : X → Y) (P : Y → Type 0) (xs : List X) → All (λ x. p x ≡ true → P (f x)) xs
    → All P (map f (filter p xs))
All-kept p f P xs h = All-map P f (filter p xs) (λ k d l. All-filter p (λ x. p x ≡ true → P (f x)) xs h k d l (filter_passes p xs k d l))

module _ {X : Type 0} (p : X → Bool) where
  pub any_push : (xs : List X) (x : X) → list_any p (xs ++ x ∷ []) ≡ (list_any p xs || p x)
  any_push xs x = list_any-append p xs (x ∷ []) ∙ ap (λ b. list_any p xs || b) (or-false (p x))

  -- a test that an inserted key and its equals pass alike
  pub any_insert : (eq : X → X → Bool) (x : X) → ((y : X) → eq x y ≡ true → p y ≡ p x) → (xs : List X) → list_any p (insert_key eq xs x) ≡ (list_any p xs || p x)
  any_insert eq x alike xs = by (list_any (eq x) xs) refl
    where
      by : (b : Bool) → list_any (eq x) xs ≡ b → list_any p (insert_key eq xs x) ≡ (list_any p xs || p x)
      by true e =
          ap (λ b. list_any p (cond b xs (xs ++ x ∷ []))) e
          ∙ sym (or_absorbs (list_any p xs) (p x) (λ t. any_implies (eq x) p (λ y h. alike y h ∙ t) xs e))
      by false e = ap (λ b. list_any p (cond b xs (xs ++ x ∷ []))) e ∙ any_push xs x
