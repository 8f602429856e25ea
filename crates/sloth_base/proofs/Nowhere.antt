-- What holds of each element where a rule finds no fault.
use Rattle.std.proofs.Common.{◌≡◌, inl, inr, ℕ, ◌<◌, Bool, true, false, List, [], ◌∷◌, ◌++◌, length, take, get_or, suc, zero, refl, sym, subst, append_assoc, append-nil, arith}
use Rattle.sloth_base.specs.declared.refusal.Part.{Part}
use Rattle.sloth_base.specs.declared.refusal.Code.{Code}
use Rattle.sloth_base.specs.declared.refusal.Refusal.{Refusal}
use Rattle.sloth_base.specs.Order.{NoFault}
use Rattle.sloth_base.specs.Search.{SomeFrom, Somewhere}
use Rattle.sloth_base.specs.Cases.{fault_at, CaseOf}

nowhere_from : {X : Type 0} (P : List X → X → Refusal → Type 0) (xs front : List X) → NoFault (SomeFrom P front xs) → (i : ℕ) (d : X) → i < length xs
    → NoFault (P (front ++ take i xs) (get_or xs i d))
nowhere_from P [] front n i d h = absurd (omega arith)
nowhere_from P (x ∷ xs) front n zero d h = λ r p. n r (inl (subst (λ ys. P ys x r) (append-nil front) p))
nowhere_from P (x ∷ xs) front n (suc i) d h = λ r p.
    nowhere_from P xs (front ++ x ∷ []) (λ s q. n s (inr q)) i d (omega arith) r (subst (λ ys. P ys (get_or xs i d) r) (sym (append_assoc front (x ∷ []) (take i xs))) p)

-- A rule that finds a fault nowhere finds none at an element.
pub nowhere : {X : Type 0} (P : List X → X → Refusal → Type 0) (xs : List X) → NoFault (Somewhere P xs) → (i : ℕ) (d : X) → i < length xs → NoFault (P (take i xs) (get_or xs i d))
nowhere P xs n i d h = nowhere_from P xs [] n i d h

-- the test of a case that is no fault
pub case_false : (part : Part) (b : Bool) (line : ℕ) (code : Code) → NoFault (CaseOf part b line code) → b ≡ false
case_false part true line code n = absurd (n (fault_at part line code) (refl, refl))
case_false part false line code n = refl
