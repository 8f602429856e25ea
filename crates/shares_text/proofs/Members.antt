-- Elements of lists.
use Rattle.std.proofs.Common.{◌≡◌, ◌⊎◌, inl, inr, Bool, true, false, ◌&&◌, List, [], ◌∷◌, refl, sym, ap, ◌∙◌, subst}
use Rattle.std.specs.List.{list_any, list_all, AllByRecursion}
use Rattle.std.proofs.lemmas.Bool.{false≢true, or_cases, or_left, or_right, or_parts, and_parts, and_cases}

module _ {X : Type 0} where
  -- the element is in the list
  abbrev pub In : X → List X → Type 0
  In x [] = ⊥
  In x (y ∷ ys) = (y ≡ x) ⊎ In x ys

  pub holds : (P : X → Type 0) (xs : List X) (x : X) → AllByRecursion P xs → In x xs → P x
  holds P [] x h i = absurd i
  holds P (y ∷ ys) x h (inl e) = subst P e h.0
  holds P (y ∷ ys) x h (inr i) = holds P ys x h.1 i

  pub weaker : (P Q : X → Type 0) (xs : List X) → ((x : X) → P x → Q x) → AllByRecursion P xs → AllByRecursion Q xs
  weaker P Q [] f h = tt
  weaker P Q (x ∷ xs) f h = (f x h.0, weaker P Q xs f h.1)

  module _ (test : X → Bool) where
    pub some_is : (xs : List X) → list_any test xs ≡ true → (x : X) × In x xs × (test x ≡ true)
    some_is [] h = absurd (false≢true h)
    some_is (y ∷ ys) h = by (λ r. some_is ys r) (or_cases (test y) (list_any test ys) h)
      where
        by : (list_any test ys ≡ true → (x : X) × In x ys × (test x ≡ true)) → (test y ≡ true) ⊎ (list_any test ys ≡ true)
            → (x : X) × In x (y ∷ ys) × (test x ≡ true)
        by later (inl e) = (y, inl refl, e)
        by later (inr r) = let s = later r in (s.0, inr s.1, s.2)

    pub is_some_of : (xs : List X) (x : X) → In x xs → test x ≡ true → list_any test xs ≡ true
    is_some_of [] x i e = absurd i
    is_some_of (y ∷ ys) x (inl s) e = or_left (test y) (list_any test ys) (ap test s ∙ e)
    is_some_of (y ∷ ys) x (inr i) e = or_right (test y) (list_any test ys) (is_some_of ys x i e)

    pub none_is : (xs : List X) (x : X) → list_any test xs ≡ false → In x xs → test x ≡ false
    none_is [] x h i = absurd i
    none_is (y ∷ ys) x h (inl s) = ap test (sym s) ∙ (or_parts (test y) (list_any test ys) h).0
    none_is (y ∷ ys) x h (inr i) = none_is ys x (or_parts (test y) (list_any test ys) h).1 i

    pub each_is : (xs : List X) (x : X) → list_all test xs ≡ true → In x xs → test x ≡ true
    each_is [] x h i = absurd i
    each_is (y ∷ ys) x h (inl s) = ap test (sym s) ∙ (and_parts (test y) (list_all test ys) h).0
    each_is (y ∷ ys) x h (inr i) = each_is ys x (and_parts (test y) (list_all test ys) h).1 i

    pub all_are : (xs : List X) → ((x : X) → In x xs → test x ≡ true) → list_all test xs ≡ true
    all_are [] h = refl
    all_are (y ∷ ys) h = ap (λ b. b && list_all test ys) (h y (inl refl)) ∙ all_are ys (λ x i. h x (inr i))

    pub one_is_not : (xs : List X) → list_all test xs ≡ false → (x : X) × In x xs × (test x ≡ false)
    one_is_not [] h = absurd (false≢true (sym h))
    one_is_not (y ∷ ys) h = by (λ r. one_is_not ys r) (and_cases (test y) (list_all test ys) h)
      where
        by : (list_all test ys ≡ false → (x : X) × In x ys × (test x ≡ false)) → (test y ≡ false) ⊎ (list_all test ys ≡ false)
            → (x : X) × In x (y ∷ ys) × (test x ≡ false)
        by later (inl e) = (y, inl refl, e)
        by later (inr r) = let s = later r in (s.0, inr s.1, s.2)
