-- A list that grows in a loop by what each element gives.
use Rattle.std.proofs.Common.{◌≡◌, ◌≤◌, ◌<◌, ◌+◌, ◌∙◌, ℕ, List, [], ◌∷◌, ◌++◌, length, get_or, map, drop, sym, ap, subst, append_assoc, append-nil}
use Rattle.std.proofs.lemmas.List.{drop_more, drop_all}

-- one more
pub mapped_more : (A B : Type 0) (f : A → B) (xs : List A) (i : ℕ) (d : A) (old new : List B) (y : B) → i < length xs → new ≡ old ++ y ∷ [] → y ≡ f (get_or xs i d)
    → old ++ map f (drop i xs) ≡ map f xs → new ++ map f (drop (i + 1) xs) ≡ map f xs
mapped_more A B f xs i d old new y inside e is before =
    let rest : List B = map f (drop (i + 1) xs) in
    ap (λ (ys : List B). ys ++ rest) e
    ∙ append_assoc old (y ∷ []) rest
    ∙ ap (λ (z : B). old ++ (z ∷ rest)) is
    ∙ ap (λ (ys : List A). old ++ map f ys) (sym (drop_more xs i d inside))
    ∙ before

-- all of them
pub mapped_all : (A B : Type 0) (f : A → B) (xs : List A) (i : ℕ) (list : List B) → length xs ≤ i → list ++ map f (drop i xs) ≡ map f xs → list ≡ map f xs
mapped_all A B f xs i list past is = sym (append-nil list) ∙ ap (λ (ys : List A). list ++ map f ys) (sym (drop_all i xs past)) ∙ is

-- one more of those that are lent
pub lent_more : (A B : Type 0) (f : A → B) (xs lent : List A) (i : ℕ) (x : A) (old new : List B) → lent ≡ xs → i < length lent → x ≡ get_or lent i x → new ≡ old ++ f x ∷ []
    → old ++ map f (drop i xs) ≡ map f xs → new ++ map f (drop (i + 1) xs) ≡ map f xs
lent_more A B f xs lent i x old new same inside is e before =
    mapped_more A B f xs i x old new (f x) (subst (λ (ys : List A). i < length ys) same inside) e
    (ap f (subst (λ (ys : List A). x ≡ get_or ys i x) same is)) before

-- all of those that are lent
pub lent_all : (A B : Type 0) (f : A → B) (xs lent : List A) (i : ℕ) (list : List B) → lent ≡ xs → length lent ≤ i → list ++ map f (drop i xs) ≡ map f xs → list ≡ map f xs
lent_all A B f xs lent i list same past is = mapped_all A B f xs i list (subst (λ (ys : List A). length ys ≤ i) same past) is
