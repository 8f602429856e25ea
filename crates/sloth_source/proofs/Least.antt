-- Faults of one part have one least fault at most.
use Rattle.std.proofs.Common.{◌≡◌, ◌≤◌, ◌<◌, ◌+◌, ◌*◌, ◌⊎◌, ◌∙◌, ℕ, zero, suc, List, [], ◌∷◌, ◌++◌, get_or, inl, inr, refl, sym, ap, arith}
use Rattle.std.proofs.lemmas.Bool.{cases_lt}
use Rattle.std.proofs.lemmas.List.{get_or_past}
use Rattle.sloth_base.specs.declared.refusal.Refusal.{Refusal}
use Rattle.sloth_base.specs.declared.refusal.Part.{Part}
use Rattle.sloth_base.specs.declared.refusal.Code.{Code}
use Rattle.sloth_base.specs.declared.refusal.Code.TheVariants as code
use Rattle.sloth_base.specs.Order.{IsNoLater, number, IsLeast, NoFault}
use Rattle.sloth_base.specs.Search.{SomeFrom}

abbrev all : List Code
all =
    code.O1 ∷ code.O2 ∷ code.O3 ∷ code.O4 ∷ code.O5 ∷ code.O6 ∷ code.O7 ∷ code.O8 ∷ code.O9 ∷ code.O10 ∷ code.O11 ∷ code.O12 ∷ code.O13 ∷ code.O14 ∷ code.O15
    ∷ code.A1 ∷ code.A2 ∷ code.A3 ∷ code.A4 ∷ code.A5 ∷ code.A6 ∷ code.A7
    ∷ code.V1 ∷ code.V2 ∷ code.V3 ∷ code.V4 ∷ code.V5 ∷ code.V6 ∷ code.V7 ∷ code.V8 ∷ code.V9 ∷ code.V10 ∷ code.V11 ∷ code.V12
    ∷ code.T1 ∷ code.T2 ∷ code.T3 ∷ code.T4 ∷ code.L1 ∷ code.L2 ∷ code.L3 ∷ code.L4 ∷ []

by_number : (c : Code) → get_or all (number c) code.O1 ≡ c
by_number code.O1 = refl
by_number code.O2 = refl
by_number code.O3 = refl
by_number code.O4 = refl
by_number code.O5 = refl
by_number code.O6 = refl
by_number code.O7 = refl
by_number code.O8 = refl
by_number code.O9 = refl
by_number code.O10 = refl
by_number code.O11 = refl
by_number code.O12 = refl
by_number code.O13 = refl
by_number code.O14 = refl
by_number code.O15 = refl
by_number code.A1 = refl
by_number code.A2 = refl
by_number code.A3 = refl
by_number code.A4 = refl
by_number code.A5 = refl
by_number code.A6 = refl
by_number code.A7 = refl
by_number code.V1 = refl
by_number code.V2 = refl
by_number code.V3 = refl
by_number code.V4 = refl
by_number code.V5 = refl
by_number code.V6 = refl
by_number code.V7 = refl
by_number code.V8 = refl
by_number code.V9 = refl
by_number code.V10 = refl
by_number code.V11 = refl
by_number code.V12 = refl
by_number code.T1 = refl
by_number code.T2 = refl
by_number code.T3 = refl
by_number code.T4 = refl
by_number code.L1 = refl
by_number code.L2 = refl
by_number code.L3 = refl
by_number code.L4 = refl

same_place : (r s : Refusal) → IsNoLater r s → IsNoLater s r → (r.line ≡ s.line) × (number r.code ≡ number s.code)
same_place r s (inl a) (inl b) = absurd (omega (arith, a, b))
same_place r s (inl a) (inr b) = absurd (let e = b.0 in omega (arith, a, e))
same_place r s (inr a) (inl b) = absurd (let e = a.0 in omega (arith, b, e))
same_place r s (inr a) (inr b) = (a.0, let l = a.1 in let m = b.1 in omega (arith, l, m))

same_refusal : (r s : Refusal) → r.part ≡ s.part → r.line ≡ s.line → r.code ≡ s.code → r ≡ s
same_refusal r s p l c =
    ap (λ x. record { part = x; line = r.line; code = r.code }) p ∙ ap (λ x. record { part = s.part; line = x; code = r.code }) l
    ∙ ap (λ x. record { part = s.part; line = s.line; code = x }) c

pub one_least : (part : Part) (F : Refusal → Type 0) → ((r : Refusal) → F r → r.part ≡ part) → (r s : Refusal) → IsLeast F r → IsLeast F s → r ≡ s
one_least part F of r s a b =
    let place = same_place r s (a.is_least s b.is_fault) (b.is_least r a.is_fault) in
    same_refusal r s (of r a.is_fault ∙ sym (of s b.is_fault)) place.0
    (sym (by_number r.code) ∙ ap (λ n. get_or all n code.O1) place.1 ∙ by_number s.code)

-- the faults of the elements of a list are of a part
pub of_some : {X : Type 0} (part : Part) (P : List X → X → Refusal → Type 0) → ((front : List X) (x : X) (r : Refusal) → P front x r → r.part ≡ part)
    → (front xs : List X) (r : Refusal) → SomeFrom P front xs r → r.part ≡ part
of_some part P each front [] r h = absurd h
of_some part P each front (x ∷ xs) r (inl h) = each front x r h
of_some part P each front (x ∷ xs) r (inr h) = of_some part P each (front ++ x ∷ []) xs r h

-- ---- faults have a least one, unless there is none

-- a number that rises as refusals stand later
abbrev rank : Refusal → ℕ
rank r = r.line * 64 + number r.code

few_codes : (c : Code) → number c < 64
few_codes c = by (cases_lt (number c) 64)
  where
    by : (number c < 64) ⊎ (64 ≤ number c) → number c < 64
    by (inl lt) = lt
    by (inr past) =
        let le : 42 ≤ number c = omega (arith, past) in
        let first : c ≡ code.O1 = sym (by_number c) ∙ get_or_past all (number c) code.O1 le in
        absurd (let none = ap number first in omega (arith, none, past))

no_later : (r s : Refusal) → rank r ≤ rank s → IsNoLater r s
no_later r s le = by (cases_lt r.line s.line)
  where
    by : (r.line < s.line) ⊎ (s.line ≤ r.line) → IsNoLater r s
    by (inl lt) = inl lt
    by (inr ge) = let m = few_codes r.code in let n = few_codes s.code in inr (omega (arith, le, ge, m, n), omega (arith, le, ge, m, n))

module _ (F : Refusal → Type 0) where
  none_below : ((r : Refusal) → IsLeast F r → ⊥) → (n : ℕ) (r : Refusal) → rank r < n → F r → ⊥
  none_below never zero r lt f = omega (arith, lt)
  none_below never (suc n) r lt f =
      never r (record { is_fault = f; is_least = λ s g. by s (λ below. none_below never n s (omega (arith, below, lt)) g) (cases_lt (rank s) (rank r)) })
    where
      by : (s : Refusal) → (rank s < rank r → ⊥) → (rank s < rank r) ⊎ (rank r ≤ rank s) → IsNoLater r s
      by s none (inl below) = absurd (none below)
      by s none (inr le) = no_later r s le

  -- what follows both from a least fault and from none follows
  pub least_or_none : ((r : Refusal) → IsLeast F r → ⊥) → (NoFault F → ⊥) → ⊥
  least_or_none never some = some (λ r f. none_below never (suc (rank r)) r (omega arith) f)
