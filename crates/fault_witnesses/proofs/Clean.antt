-- Steps by the lists that are kept.
use Rattle.std.proofs.Common.{◌≡◌, ◌∙◌, ℕ, ◌+◌, ◌-◌, ◌<◌, ◌≤◌, true, false, List, length, get_or, ⊎_elim, sym, ap, subst, arith}
use Rattle.std.proofs.lemmas.Bool.{cases_lt}
use Rattle.sloth_base.specs.declared.app.Func.{Func}
use Rattle.sloth_base.specs.Named.{item_of}
use Rattle.code_rules.specs.Code.{IsPathStep, held_after}
use Rattle.fault_witnesses.specs.declared.body_lists.BodyLists.{BodyLists}
use Rattle.fault_witnesses.specs.BodyLists.{AreBodyLists, AreLed, no_list}
use Rattle.fault_witnesses.specs.CleanWays.{IsCleanStep, IsCleanWay, is_orderly, way_item}

pub clean_of : (f : Func) (tables : BodyLists) (i k : ℕ) → AreBodyLists f tables → IsPathStep f i k → k < length f.items → get_or tables.agreed k false ≡ true
    → AreLed (get_or tables.lists i no_list) (item_of f i).op (get_or tables.lists k no_list) → IsCleanStep f i k
clean_of f tables i k are goes inside agreed led =
    let before = are.lists i led.kept_before in
    let o = (item_of f i).op in
    record {
      goes = goes;
      inside = inside;
      orderly = subst (λ (h : List ℕ). is_orderly h o ≡ true) before led.orderly;
      held = sym (are.lists k led.kept_behind) ∙ led.is ∙ ap (held_after o) before;
      labels = are.agreed k agreed;
    }

-- one more step of a way
pub steps_more : (f : Func) (way : List ℕ) (number : ℕ) → IsCleanStep f (way_item way (number - 1)) (way_item way number)
    → ((n : ℕ) → n + 1 < number → IsCleanStep f (way_item way n) (way_item way (n + 1))) → (n : ℕ) → n + 1 < number + 1 → IsCleanStep f (way_item way n) (way_item way (n + 1))
steps_more f way number step each n l = ⊎_elim
    (λ less. each n less)
    (λ ge.
    let same : number ≡ n + 1 = omega (arith, l, ge) in
    let before : number - 1 ≡ n = omega (arith, same) in
    subst (λ k. IsCleanStep f (way_item way k) (way_item way (n + 1))) before (subst (λ k. IsCleanStep f (way_item way (number - 1)) (way_item way k)) same step))
    (cases_lt (n + 1) number)

-- the items from one on up to the goal, each of which steps cleanly to the next
pub straight_way : (f : Func) (first goal : ℕ) (way : List ℕ) → first ≤ goal → length way ≡ goal - first + 1 → ((n : ℕ) → n < goal - first + 1 → way_item way n ≡ first + n)
    → ((i : ℕ) → first ≤ i → i < goal → IsCleanStep f i (i + 1)) → IsCleanWay f first goal way
straight_way f first goal way le count each steps = record {
  some = omega (arith, count);
  starts = let e = each 0 (omega arith) in omega (arith, e);
  steps = λ n l.
      let one : way_item way n ≡ first + n = each n (omega (arith, l, count)) in
      let two : way_item way (n + 1) ≡ first + (n + 1) = each (n + 1) (omega (arith, l, count)) in
      let after : way_item way (n + 1) ≡ first + n + 1 = omega (arith, two) in
      subst (λ k. IsCleanStep f (way_item way n) k) (sym after)
      (subst (λ k. IsCleanStep f k (first + n + 1)) (sym one) (steps (first + n) (omega arith) (omega (arith, l, count, le))));
  ends =
      let place : length way - 1 ≡ goal - first = omega (arith, count) in
      let e : way_item way (goal - first) ≡ first + (goal - first) = each (goal - first) (omega arith) in
      ap (way_item way) place ∙ e ∙ (omega (arith, le));
}
