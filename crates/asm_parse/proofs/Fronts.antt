-- What stands in front of an element of a list.
use Rattle.std.proofs.Common.{◌≡◌, ◌∙◌, ℕ, ◌+◌, ◌<◌, Bool, List, [], ◌∷◌, ◌++◌, map, take, drop, get_or, length, suc, zero, refl, ap, sym, add-one, count_by}
use Rattle.std.specs.Prelude.{if◌then◌else◌, filter}
use Rattle.std.specs.List.{sum_by}
use Rattle.std.proofs.lemmas.List.{take-append-drop, map-append, length-map}
use Rattle.std.proofs.lemmas.List.Elements.{filter-append}
use Rattle.std.proofs.lemmas.List.Sums.{sum_by_push, length-filter}
use Rattle.std.proofs.Math.Seq.{take-suc, take-append_seam}

pub take_more : {X : Type 0} (xs : List X) (i : ℕ) (x : X) → i < length xs → x ≡ get_or xs i x → take (i + 1) xs ≡ take i xs ++ x ∷ []
take_more xs i x h at = rw add-one (take-suc xs i x h ∙ ap (λ y. take i xs ++ y ∷ []) (sym at))

pub sum_more : {X : Type 0} (f : X → ℕ) (xs : List X) (i : ℕ) (x : X) → i < length xs → x ≡ get_or xs i x → sum_by f (take i xs) + f x ≡ sum_by f (take (i + 1) xs)
sum_more f xs i x h at = sym (ap (sum_by f) (take_more xs i x h at) ∙ sum_by_push f (take i xs) x)

pub count_more : {X : Type 0} (p : X → Bool) (xs : List X) (i : ℕ) (x : X) → i < length xs → x ≡ get_or xs i x → count_by p (take i xs) + (if p x then 1 else 0) ≡ count_by p (take (i + 1) xs)
count_more p xs i x h at = sum_more (λ y. if p y then 1 else 0) xs i x h at

-- Of what passes the test, as much stands in front as passes there.
pub kept_front : {X Y : Type 0} (p : X → Bool) (f : X → Y) (xs : List X) (i : ℕ) → take (count_by p (take i xs)) (map f (filter p xs)) ≡ map f (filter p (take i xs))
kept_front p f xs i =
    let a = take i xs in
    let b = drop i xs in
    let cut : map f (filter p xs) ≡ map f (filter p a) ++ map f (filter p b) =
    ap (λ ys. map f (filter p ys)) (sym (take-append-drop i xs)) ∙ ap (map f) (filter-append p a b) ∙ map-append f (filter p a) (filter p b) in
    let n : count_by p a ≡ length (map f (filter p a)) = sym (length-map (filter p a) f ∙ length-filter p a) in
    ap (take (count_by p a)) cut ∙ ap (λ k. take k (map f (filter p a) ++ map f (filter p b))) n ∙ take-append_seam (map f (filter p a)) (map f (filter p b))

pub take_map : {X Y : Type 0} (f : X → Y) (xs : List X) (i : ℕ) → take i (map f xs) ≡ map f (take i xs)
take_map f [] zero = refl
take_map f [] (suc i) = refl
take_map f (x ∷ xs) zero = refl
take_map f (x ∷ xs) (suc i) = ap (λ ys. f x ∷ ys) (take_map f xs i)
