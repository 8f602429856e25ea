-- Lists of which each entry is what an element gives.
use Rattle.std.proofs.Common.{◌≡◌, ◌≤◌, ◌<◌, ◌∙◌, ℕ, List, length, get_or, sym, ap, arith, ⊎_elim}
use Rattle.std.proofs.lemmas.Bool.{cases_lt}
use Rattle.std.proofs.Math.ListN.{get_or-eq_default}

-- entries that are as said up to the end of another list, where both have nothing but their defaults behind
pub same_behind : (A B : Type 0) (f : A → B) (xs : List A) (d : A) (list : List B) (n : ℕ) → length xs ≤ n → length list ≡ n
    → ((i : ℕ) → i < n → get_or list i (f d) ≡ f (get_or xs i d)) → (i : ℕ) → get_or list i (f d) ≡ f (get_or xs i d)
same_behind A B f xs d list n past count exact i = ⊎_elim
    (λ less. exact i less)
    (λ le. get_or-eq_default list (f d) (omega (arith, count, le)) ∙ ap f (sym (get_or-eq_default xs d (omega (arith, past, le)))))
    (cases_lt i n)
