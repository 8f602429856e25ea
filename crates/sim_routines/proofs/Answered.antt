-- The caller's registers where a service has answered in a0, or in a0 and a1.
use Rattle.std.proofs.Common.{◌≡◌, ℕ, ◌+◌, ◌<◌, ◌≤◌, ◌⊎◌, List, length, set, sym, ◌∙◌, subst, arith, inl, inr, ⊎_elim}
use Rattle.std.specs.Prelude.{slice_index}
use Rattle.std.proofs.lemmas.Bool.{cases_eq, cases_lt}
use Rattle.std.proofs.lemmas.List.{get_or-set_same, get_or-set_other, length-set}
use Rattle.block_parts.specs.Back.{a0, a1}

module _ (registers old new : List ℕ) (long : length registers ≡ 25) (held : (i : ℕ) → i < 25 → slice_index registers i ≡ slice_index old (i + 5)) (value : ℕ)
    (value_is : slice_index new a0 ≡ value) where
  -- the caller's registers are as many with a new status
  pub long_status : length (set registers 5 value) ≡ 25
  long_status = length-set registers 5 value ∙ long

  -- as two steps: the registers but a1 are so
  status_but : (last : ℕ) → a0 ≤ last → ((i : ℕ) → 5 ≤ i → (i < a0) ⊎ (last < i) → slice_index new i ≡ slice_index old i)
      → (i : ℕ) → i < 25 → (i + 5 ≤ a0) ⊎ (last < i + 5) → slice_index (set registers 5 value) i ≡ slice_index new (i + 5)
  status_but last from kept i l where_it = by (cases_eq i 5)
    where
      by : (i ≡ 5) ⊎ (i ≡ 5 → ⊥) → slice_index (set registers 5 value) i ≡ slice_index new (i + 5)
      by (inl e) = subst (λ j. slice_index (set registers 5 value) j ≡ slice_index new (j + 5)) (sym e)
          (get_or-set_same registers 5 value 0 (let g = long in omega arith) ∙ sym value_is)
      by (inr n) =
          get_or-set_other registers 5 i value 0 n ∙ held i l
          ∙ sym (kept (i + 5) (omega arith) (⊎_elim (λ (h : i + 5 ≤ a0). inl (omega arith)) (λ (h : last < i + 5). inr h) where_it))

  -- the registers of the machine are those of the caller with the status
  pub status_held : ((i : ℕ) → 5 ≤ i → (i < a0) ⊎ (a0 < i) → slice_index new i ≡ slice_index old i)
      → (i : ℕ) → i < 25 → slice_index (set registers 5 value) i ≡ slice_index new (i + 5)
  status_held kept i l =
      status_but a0 (omega arith) kept i l (⊎_elim (λ (h : a0 < i + 5). inr h) (λ (h : i + 5 ≤ a0). inl h) (cases_lt a0 (i + 5)))

  module _ (second : ℕ) (second_is : slice_index new a1 ≡ second) (kept : (i : ℕ) → 5 ≤ i → (i < a0) ⊎ (a1 < i) → slice_index new i ≡ slice_index old i) where
    -- as many with a status and an answer
    pub long_both : length (set (set registers 5 value) 6 second) ≡ 25
    long_both = length-set (set registers 5 value) 6 second ∙ long_status

    -- the registers of the machine are those of the caller with both
    pub both_held : (i : ℕ) → i < 25 → slice_index (set (set registers 5 value) 6 second) i ≡ slice_index new (i + 5)
    both_held i l = by (cases_eq i 6)
      where
        by : (i ≡ 6) ⊎ (i ≡ 6 → ⊥) → slice_index (set (set registers 5 value) 6 second) i ≡ slice_index new (i + 5)
        by (inl e) = subst (λ j. slice_index (set (set registers 5 value) 6 second) j ≡ slice_index new (j + 5)) (sym e)
            (get_or-set_same (set registers 5 value) 6 second 0 (let g = long_status in omega arith) ∙ sym second_is)
        by (inr n) =
            get_or-set_other (set registers 5 value) 6 i second 0 n
            ∙ status_but a1 (omega arith) kept i l (⊎_elim (λ (h : a0 < i + 5). inr (omega arith)) (λ (h : i + 5 ≤ a0). inl h) (cases_lt a0 (i + 5)))
