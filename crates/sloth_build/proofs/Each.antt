-- Lists that grow by one element a step.
use Rattle.std.proofs.Common.{◌≡◌, ◌≤◌, ◌<◌, ◌+◌, ℕ, suc, List, [], ◌∷◌, ◌++◌, length, get_or, sym, ap, subst, ⊎_elim, arith}
use Rattle.std.specs.List.{AllZip}
use Rattle.std.proofs.lemmas.List.{length-append, get_or_append_left, get_or_at}
use Rattle.std.proofs.lemmas.Bool.{cases_lt}
use Rattle.sloth_build.specs.Prologues.{Each}

each_push : {X : Type 0} (P : ℕ → X → Type 0) (xs : List X) (n : ℕ) (y : X) → length xs ≡ n → Each P xs → P n y → Each P (xs ++ y ∷ [])
each_push {X} P xs n y e h p = λ k d l.
    let long = length-append xs (y ∷ []) in
    ⊎_elim
    (λ (x : k < length xs). subst (P k) (sym (get_or_append_left xs (y ∷ []) d k x)) (h k d x))
    (λ (x : length xs ≤ k).
    let is : n ≡ k = omega (arith, e, x, l, long) in
    let Q : ℕ → Type 0 = λ j. P j (get_or (xs ++ y ∷ []) j d) in
    subst Q is (subst (P n) (sym (get_or_at xs y [] d n e)) p))
    (cases_lt k (length xs))

pub grown : {X : Type 0} (P : ℕ → X → Type 0) (xs zs : List X) (n : ℕ) (y : X) → zs ≡ xs ++ y ∷ [] → length xs ≡ n → Each P xs → P n y → (length zs ≡ n + 1) × Each P zs
grown {X} P xs zs n y is e h p =
    let long = length-append xs (y ∷ []) in
    let same : length zs ≡ length (xs ++ y ∷ []) = ap length is in
    (omega (arith, e, long, same), subst (Each P) (sym is) (each_push P xs n y e h p))

-- ---- place by place

pub zip_push : {A B : Type 0} (R : A → B → Type 0) (xs : List A) (ys : List B) (x : A) (y : B) → AllZip R xs ys → R x y → AllZip R (xs ++ x ∷ []) (ys ++ y ∷ [])
zip_push R [] [] x y h r = (r, tt)
zip_push R [] (b ∷ ys) x y h r = absurd h
zip_push R (a ∷ xs) [] x y h r = absurd h
zip_push R (a ∷ xs) (b ∷ ys) x y h r = (h.0, zip_push R xs ys x y h.1 r)

pub zip_append : {A B : Type 0} (R : A → B → Type 0) (xs : List A) (ys : List B) (us : List A) (vs : List B) → AllZip R xs ys → AllZip R us vs
    → AllZip R (xs ++ us) (ys ++ vs)
zip_append R [] [] us vs h r = r
zip_append R [] (b ∷ ys) us vs h r = absurd h
zip_append R (a ∷ xs) [] us vs h r = absurd h
zip_append R (a ∷ xs) (b ∷ ys) us vs h r = (h.0, zip_append R xs ys us vs h.1 r)

pub zip_from : {A B : Type 0} (R : A → B → Type 0) (xs : List A) (ys : List B) (d : A) (e : B) → length xs ≡ length ys
    → ((k : ℕ) → k < length xs → R (get_or xs k d) (get_or ys k e)) → AllZip R xs ys
zip_from R [] [] d e n h = tt
zip_from R [] (y ∷ ys) d e n h = absurd (omega (arith, n))
zip_from R (x ∷ xs) [] d e n h = absurd (omega (arith, n))
zip_from R (x ∷ xs) (y ∷ ys) d e n h = (h 0 (omega arith), zip_from R xs ys d e (omega (arith, n)) (λ k l. h (suc k) (omega (arith, l))))
