-- Lines that are told where they are few.
use Rattle.std.proofs.Common.{◌≡◌, ◌≤◌, ◌⊎◌, inl, inr, ℕ, List, [], length, Option, Some, subst}
use Rattle.std.specs.Prelude.{IfSome}

pub few_told : (found : Option (List ℕ)) (P : List ℕ → Type 0) (limit : ℕ) (lines : List ℕ) → IfSome found P
    → ((lines ≡ []) ⊎ ((found ≡ Some lines) × (length lines ≤ limit))) → (lines ≡ []) ⊎ (P lines × (length lines ≤ limit))
few_told found P limit lines h (inl none) = inl none
few_told found P limit lines h (inr few) = inr (subst (λ (o : Option (List ℕ)). IfSome o P) few.0 h, few.1)
