-- Lists that grow in a loop, by what the next element gives.
use Rattle.std.proofs.Common.{◌≡◌, ◌<◌, ◌+◌, ◌∙◌, ℕ, List, [], ◌∷◌, ◌++◌, length, get_or, drop, sym, ap, append_assoc}
use Rattle.std.specs.Prelude.{map}
use Rattle.std.proofs.lemmas.List.{drop_more}
use Rattle.mem_map.specs.Starts.{starts, end_of}

-- one more of a mapped list
pub one_mapped : {A : Type 0} (f : A → ℕ) (xs : List A) (i : ℕ) (d : A) (out more : List ℕ) (v : ℕ) → i < length xs → more ≡ out ++ v ∷ [] → v ≡ f (get_or xs i d)
    → out ++ map f (drop i xs) ≡ map f xs → more ++ map f (drop (i + 1) xs) ≡ map f xs
one_mapped f xs i d out more v l e is before =
    ap (λ ys. ys ++ map f (drop (i + 1) xs)) e
    ∙ append_assoc out (v ∷ []) (map f (drop (i + 1) xs))
    ∙ ap (λ k. out ++ (k ∷ map f (drop (i + 1) xs))) is
    ∙ ap (λ ys. out ++ map f ys) (sym (drop_more xs i d l))
    ∙ before

-- one more address
pub one_placed : (lengths : List ℕ) (i : ℕ) (out more : List ℕ) (from end : ℕ) → i < length lengths → more ≡ out ++ end ∷ []
    → out ++ starts end (drop i lengths) ≡ starts from lengths
    → more ++ starts (end + get_or lengths i 0) (drop (i + 1) lengths) ≡ starts from lengths
one_placed lengths i out more from end l e before =
    ap (λ ys. ys ++ starts (end + get_or lengths i 0) (drop (i + 1) lengths)) e
    ∙ append_assoc out (end ∷ []) (starts (end + get_or lengths i 0) (drop (i + 1) lengths))
    ∙ ap (λ ys. out ++ starts end ys) (sym (drop_more lengths i 0 l))
    ∙ before

-- the end of all stays
pub one_nearer : (lengths : List ℕ) (i : ℕ) (from end : ℕ) → i < length lengths → end_of end (drop i lengths) ≡ end_of from lengths
    → end_of (end + get_or lengths i 0) (drop (i + 1) lengths) ≡ end_of from lengths
one_nearer lengths i from end l before = ap (end_of end) (sym (drop_more lengths i 0 l)) ∙ before
