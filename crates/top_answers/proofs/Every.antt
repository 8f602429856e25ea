-- A test of each number of a list that is written out.
use Rattle.std.proofs.Common.{◌≡◌, ℕ, zero, suc, ◌<◌, List, [], ◌∷◌, length, get_or, subst, arith, ⊎_elim}
use Rattle.std.specs.Prelude.{Bool, true, false, cond}
use Rattle.std.proofs.lemmas.Bool.{cases_Bool}

abbrev pub every : (ℕ → Bool) → List ℕ → Bool
every p [] = true
every p (x ∷ xs) = cond (p x) (every p xs) false

pub every_at : (p : ℕ → Bool) (xs : List ℕ) → every p xs ≡ true → (k : ℕ) → k < length xs → p (get_or xs k 0) ≡ true
every_at p [] h k l = absurd (omega arith)
every_at p (x ∷ xs) h zero l = ⊎_elim (λ e. e) (λ e. let g : false ≡ true = subst (λ b. cond b (every p xs) false ≡ true) e h in absurd (cc)) (cases_Bool (p x))
every_at p (x ∷ xs) h (suc k) l =
    ⊎_elim
    (λ e. every_at p xs (subst (λ b. cond b (every p xs) false ≡ true) e h) k (omega arith))
    (λ e. let g : false ≡ true = subst (λ b. cond b (every p xs) false ≡ true) e h in absurd (cc))
    (cases_Bool (p x))
