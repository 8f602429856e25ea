-- A register of task code, in the machine's registers and in the task's.
use Rattle.std.proofs.Common.{◌≡◌, ℕ, zero, suc, ◌+◌, ◌-◌, ◌<◌, List, length, set, refl, sym, ap, ◌∙◌, subst, arith, ⊎_elim, inl, inr}
use Rattle.std.specs.Prelude.{slice_index}
use Rattle.std.proofs.lemmas.Bool.{cases_eq}
use Rattle.std.proofs.lemmas.List.{get_or-set_same, get_or-set_other, length-set}
use Rattle.sloth_base.specs.Machine.{Core}
use Rattle.code_rules.specs.AppRange.{IsRegister}
use Rattle.rv32_instr.specs.Execute.{with_register}
use Rattle.osek_scheduler.specs.Meaning.{register, shown_value}
use Rattle.osek_scheduler.specs.Meaning as meaning

-- a register other than x0 is written
pub written : (core : Core) (rd value : ℕ) → 0 < rd → with_register core rd value ≡ record core { registers = set core.registers rd value }
written core zero value h = absurd (omega arith)
written core (suc rd) value h = refl

own_written : (own : List ℕ) (rd value : ℕ) → 0 < rd → meaning.with_register own rd value ≡ set own (rd - 5) value
own_written own zero value h = absurd (omega arith)
own_written own (suc rd) value h = refl

-- the task's registers are x5 to x29 of the machine
pub own_register : (own : List ℕ) (r : ℕ) → 0 < r → register own r ≡ slice_index own (r - 5)
own_register own zero h = absurd (omega arith)
own_register own (suc r) h = refl

-- both have the same in each register of task code
pub own_agrees : (x own : List ℕ) → slice_index x 0 ≡ 0 → ((i : ℕ) → i < 25 → slice_index own i ≡ slice_index x (i + 5)) → (r : ℕ) → IsRegister r → slice_index x r ≡ register own r
own_agrees x own zero_is same r (inl e) = subst (λ v. slice_index x v ≡ register own v) (sym e) zero_is
own_agrees x own zero_is same r (inr h) =
    let low = h.0 in
    let high = h.1 in
    let e : r - 5 + 5 ≡ r = omega arith in
    sym (own_register own r (omega arith) ∙ same (r - 5) (omega arith) ∙ ap (λ v. slice_index x v) e)

seen_value : (rd value : ℕ) → 0 < rd → shown_value rd value ≡ value
seen_value zero value h = absurd (omega arith)
seen_value (suc rd) value h = refl

-- a write to a register of task code, in the machine's registers and in the task's
pub record Wrote (core own : List ℕ) (rd value : ℕ) (core_now own_now : List ℕ) : Type 0 where
  pub long : length core_now ≡ 32
  pub zero : slice_index core_now 0 ≡ slice_index core 0
  pub x2 : slice_index core_now 2 ≡ slice_index core 2
  pub x3 : slice_index core_now 3 ≡ slice_index core 3
  pub x4 : slice_index core_now 4 ≡ slice_index core 4
  pub own_long : length own_now ≡ 25
  pub same : (i : ℕ) → i < 25 → slice_index own_now i ≡ slice_index core_now (i + 5)
  pub shows : shown_value rd value ≡ slice_index core_now rd

-- a register that is written in both
pub wrote : (core : Core) (own : List ℕ) (rd value : ℕ) → length core.registers ≡ 32 → slice_index core.registers 0 ≡ 0 → length own ≡ 25
    → ((i : ℕ) → i < 25 → slice_index own i ≡ slice_index core.registers (i + 5)) → IsRegister rd
    → Wrote core.registers own rd value (with_register core rd value).registers (meaning.with_register own rd value)
wrote core own rd value long zero_is own_long same (inl e) =
    subst (λ r. Wrote core.registers own r value (with_register core r value).registers (meaning.with_register own r value)) (sym e)
    (record { long = long; zero = refl; x2 = refl; x3 = refl; x4 = refl; own_long = own_long; same = same; shows = sym zero_is })
wrote core own rd value long zero_is own_long same (inr h) =
    let low = h.0 in
    let high = h.1 in
    subst (λ c. Wrote core.registers own rd value c (meaning.with_register own rd value)) (sym (ap (λ (c : Core). c.registers) (written core rd value (omega arith))))
    (subst (λ o. Wrote core.registers own rd value (set core.registers rd value) o) (sym (own_written own rd value (omega arith)))
    (record {
      long = length-set core.registers rd value ∙ long;
      zero = get_or-set_other core.registers rd 0 value 0 (λ e. omega arith);
      x2 = get_or-set_other core.registers rd 2 value 0 (λ e. omega arith);
      x3 = get_or-set_other core.registers rd 3 value 0 (λ e. omega arith);
      x4 = get_or-set_other core.registers rd 4 value 0 (λ e. omega arith);
      own_long = length-set own (rd - 5) value ∙ own_long;
      same = λ i l.
          ⊎_elim
          (λ (e : i ≡ rd - 5).
          let q : i + 5 ≡ rd = omega arith in
          ap (λ u. slice_index (set own (rd - 5) value) u) e ∙ get_or-set_same own (rd - 5) value 0 (omega arith)
          ∙ sym (get_or-set_same core.registers rd value 0 (omega arith)) ∙ ap (λ u. slice_index (set core.registers rd value) u) (sym q))
          (λ (e : i ≡ rd - 5 → ⊥).
          get_or-set_other own (rd - 5) i value 0 e ∙ same i l ∙ sym (get_or-set_other core.registers rd (i + 5) value 0 (λ q. e (omega arith))))
          (cases_eq i (rd - 5));
      shows = seen_value rd value (omega arith) ∙ sym (get_or-set_same core.registers rd value 0 (omega arith));
    }))
