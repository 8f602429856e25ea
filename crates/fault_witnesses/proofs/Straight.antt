-- Steps in the order of the text.
use Rattle.std.proofs.Common.{◌≡◌, ◌∙◌, ℕ, zero, suc, ◌+◌, ◌<◌, ◌≤◌, true, false, cond, List, length, get_or, Option, Some, None, inl, ⊎_elim, refl, sym, ap, subst, add-one, arith}
use Rattle.std.specs.Prelude.{is_some}
use Rattle.std.proofs.lemmas.Bool.{cases_lt, true≢false}
use Rattle.std.proofs.lemmas.Bool.Decides.{eqb_tells}
use Rattle.sloth_base.specs.declared.app.Func.{Func}
use Rattle.sloth_base.specs.declared.app.Label.{Label}
use Rattle.sloth_base.specs.Named.{item_of, label_of, no_label}
use Rattle.code_rules.specs.Code.{is_followed, held_list_at, held_list_fallen_into}
use Rattle.task_verify.specs.Labels.{last_label_below, list_of}
use Rattle.task_verify.proofs.Labelled.{held_is}
use Rattle.fault_witnesses.specs.CleanWays.{IsCleanStep, held_list_behind, is_orderly}

-- without a last label at a place there is none
pub none_at : (labels : List Label) (place n : ℕ) → last_label_below labels place n ≡ None → (k : ℕ) → k < n → (get_or labels k no_label).item ≡ place → ⊥
none_at labels place zero none k l is = omega (arith, l)
none_at labels place (suc n) none k l is = ⊎_elim
    (λ t. let e : Some n ≡ None = sym (ap (λ b. cond b (Some n) (last_label_below labels place n)) t.0) ∙ none in absurd cc)
    (λ t.
    let rest : last_label_below labels place n ≡ None = sym (ap (λ b. cond b (Some n) (last_label_below labels place n)) t.0) ∙ none in
    ⊎_elim
    (λ less. none_at labels place n rest k less is)
    (λ ge. let same : k ≡ n = omega (arith, l, ge) in t.1 (ap (λ x. (get_or labels x no_label).item) (sym same) ∙ is))
    (cases_lt k n))
    (eqb_tells (get_or labels n no_label).item place)

-- what is held behind the last label of a place
pub held_at_last : (f : Func) (k : ℕ) → last_label_below f.labels (label_of f k).item (length f.labels) ≡ Some k → held_list_at f (label_of f k).item ≡ (label_of f k).holds
held_at_last f k is = let i = (label_of f k).item in held_is f i ∙ ap (λ o. list_of f.labels o (held_list_fallen_into f i)) is

-- what is held at a place without a label
pub held_without : (f : Func) (i : ℕ) → last_label_below f.labels (i + 1) (length f.labels) ≡ None → held_list_at f (i + 1) ≡ held_list_behind f i
held_without f i none =
    held_is f (i + 1) ∙ ap (λ o. list_of f.labels o (held_list_fallen_into f (i + 1))) none ∙ ap (held_list_fallen_into f) (add-one i)

-- an item that goes on to one without a label steps cleanly to it
pub straight_step : (f : Func) (i : ℕ) → is_followed (item_of f i).op ≡ true → i + 1 < length f.items → is_orderly (held_list_at f i) (item_of f i).op ≡ true
    → last_label_below f.labels (i + 1) (length f.labels) ≡ None → IsCleanStep f i (i + 1)
straight_step f i falls inside orderly none = record {
  goes = inl (falls, refl);
  inside = inside;
  orderly = orderly;
  held = held_without f i none;
  labels = λ l known is. absurd (none_at f.labels (i + 1) (length f.labels) none l known is);
}

pub none_of : (o : Option ℕ) → is_some o ≡ false → o ≡ None
none_of None e = refl
none_of (Some k) e = absurd (true≢false e)

-- one more step of those from one item on
pub straight_more : (f : Func) (first i : ℕ) → IsCleanStep f i (i + 1) → ((k : ℕ) → first ≤ k → k < i → IsCleanStep f k (k + 1))
    → (k : ℕ) → first ≤ k → k < i + 1 → IsCleanStep f k (k + 1)
straight_more f first i step each k le l = ⊎_elim
    (λ less. each k le less)
    (λ ge. let same : i ≡ k = omega (arith, l, ge) in subst (λ x. IsCleanStep f x (x + 1)) same step)
    (cases_lt k i)
