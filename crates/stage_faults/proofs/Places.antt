-- Where faults stand, and that lists tell the same.
use Rattle.std.proofs.Common.{◌≡◌, ◌∙◌, ◌⊎◌, inl, inr, ℕ, ◌<◌, ◌≤◌, List, [], ◌∷◌, get_or, suc, zero, refl, ap, sym, arith}
use Rattle.std.specs.List.{Contains}
use Rattle.std.proofs.lemmas.Bool.{cases_lt}
use Rattle.std.proofs.lemmas.List.{get_or_past}
use Rattle.std.specs.List.Sorted.{IsPermutation}
use Rattle.std.proofs.lemmas.List.Sorted.{Contains-permutation, IsPermutation-sym}
use Rattle.sloth_base.specs.declared.refusal.Part.{Part}
use Rattle.sloth_base.specs.declared.refusal.Code.{Code}
use Rattle.sloth_base.specs.declared.refusal.Code.TheVariants as code
use Rattle.sloth_base.specs.declared.refusal.Refusal.{Refusal}
use Rattle.sloth_base.specs.Order.{number}
use Rattle.stage_faults.specs.declared.notes.Note.{Note}
use Rattle.stage_faults.specs.Told.{AreAll, TellSame, note_order}

abbrev all_codes : List Code
all_codes = code.O1 ∷ code.O2 ∷ code.O3 ∷ code.O4 ∷ code.O5 ∷ code.O6 ∷ code.O7 ∷ code.O8 ∷ code.O9 ∷ code.O10 ∷ code.O11 ∷ code.O12 ∷ code.O13 ∷ code.O14 ∷ code.O15 ∷ code.A1 ∷ code.A2 ∷ code.A3 ∷ code.A4 ∷ code.A5 ∷ code.A6 ∷ code.A7 ∷ code.V1 ∷ code.V2 ∷ code.V3 ∷ code.V4 ∷ code.V5 ∷ code.V6 ∷ code.V7 ∷ code.V8 ∷ code.V9 ∷ code.V10 ∷ code.V11 ∷ code.V12 ∷ code.T1 ∷ code.T2 ∷ code.T3 ∷ code.T4 ∷ code.L1 ∷ code.L2 ∷ code.L3 ∷ code.L4 ∷ []

by_number : (c : Code) → get_or all_codes (number c) code.O1 ≡ c
by_number code.O1 = refl
by_number code.O2 = refl
by_number code.O3 = refl
by_number code.O4 = refl
by_number code.O5 = refl
by_number code.O6 = refl
by_number code.O7 = refl
by_number code.O8 = refl
by_number code.O9 = refl
by_number code.O10 = refl
by_number code.O11 = refl
by_number code.O12 = refl
by_number code.O13 = refl
by_number code.O14 = refl
by_number code.O15 = refl
by_number code.A1 = refl
by_number code.A2 = refl
by_number code.A3 = refl
by_number code.A4 = refl
by_number code.A5 = refl
by_number code.A6 = refl
by_number code.A7 = refl
by_number code.V1 = refl
by_number code.V2 = refl
by_number code.V3 = refl
by_number code.V4 = refl
by_number code.V5 = refl
by_number code.V6 = refl
by_number code.V7 = refl
by_number code.V8 = refl
by_number code.V9 = refl
by_number code.V10 = refl
by_number code.V11 = refl
by_number code.V12 = refl
by_number code.T1 = refl
by_number code.T2 = refl
by_number code.T3 = refl
by_number code.T4 = refl
by_number code.L1 = refl
by_number code.L2 = refl
by_number code.L3 = refl
by_number code.L4 = refl

few_codes : (c : Code) → number c < 64
few_codes c = by (cases_lt (number c) 64)
  where
    by : (number c < 64) ⊎ (64 ≤ number c) → number c < 64
    by (inl lt) = lt
    by (inr past) =
        let le : 42 ≤ number c = omega (arith, past) in
        let first : c ≡ code.O1 = sym (by_number c) ∙ get_or_past all_codes (number c) code.O1 le in
        absurd (let none = ap number first in omega (arith, none, past))

same_code : (c d : Code) → number c ≡ number d → c ≡ d
same_code c d e = sym (by_number c) ∙ (ap (λ n. get_or all_codes n code.O1) e ∙ by_number d)

pub same_line : (a b : Note) → note_order a ≡ note_order b → a.line ≡ b.line
same_line a b e = let x = few_codes a.code in let y = few_codes b.code in omega (arith, e, x, y)

same_number : (a b : Note) → note_order a ≡ note_order b → number a.code ≡ number b.code
same_number a b e = let x = few_codes a.code in let y = few_codes b.code in omega (arith, e, x, y)

pub same_code_at : (a b : Note) → note_order a ≡ note_order b → a.code ≡ b.code
same_code_at a b e = same_code a.code b.code (same_number a b e)

-- ---- lists of the same faults

pub tell_on : (xs ys zs : List Note) → TellSame xs ys → TellSame ys zs → TellSame xs zs
tell_on xs ys zs p q = record { to = λ line code t. q.to line code (p.to line code t); from = λ line code t. p.from line code (q.from line code t) }

pub tell_permuted : (xs ys : List Note) → IsPermutation xs ys → TellSame xs ys
tell_permuted xs ys p = record {
  to = λ line code t. record { note = t.note; stands = Contains-permutation xs ys t.note p t.stands; own = t.own; line_is = t.line_is; code_is = t.code_is };
  from = λ line code t. record { note = t.note; stands = Contains-permutation ys xs t.note (IsPermutation-sym xs ys p) t.stands; own = t.own; line_is = t.line_is; code_is = t.code_is };
}

pub one_note : (note x : Note) → Contains (note ∷ []) x → note ≡ x
one_note note x h = first h.0 h.1 h.2
  where
    first : (k : ℕ) → k < 1 → get_or (note ∷ []) k x ≡ x → note ≡ x
    first zero b e = e
    first (suc k) b e = absurd (omega (arith, b))

-- A list that tells the same as one of all faults of a set is one of all of them.
pub all_told : (part : Part) (F : Refusal → Type 0) (xs ys : List Note) → TellSame xs ys → AreAll part F xs → AreAll part F ys
all_told part F xs ys s a = record { each = λ r f. s.to r.line r.code (a.each r f); only = λ line code t. a.only line code (s.from line code t) }
