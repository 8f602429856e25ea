-- The look at a task: what is owed of it, and what it finds.
use Rattle.std.proofs.Common.{◌≡◌, ℕ, zero, suc, ◌<◌, ◌⊎◌, List, ◌∷◌, ◌++◌, length, get_or, refl, ap, ◌∙◌, arith, inl, inr, ⊎_elim}
use Rattle.std.specs.Prelude.{nat_lt, set, cond}
use Rattle.std.proofs.lemmas.Bool.{cases_Bool}
use Rattle.sloth_base.specs.Machine.{Core, State}
use Rattle.sloth_base.specs.Arithmetic.{one_if}
use Rattle.sloth_base.specs.Arrive.{arrive}
use Rattle.sloth_base.specs.MemoryMap.{memory_base, controller_base, line_count}
use Rattle.sloth_base.specs.Limits.{task_limit}
use Rattle.sloth_region.specs.Layout.{active}
use Rattle.rv32_instr.specs.declared.InstrKind.{InstrKind}
use Rattle.rv32_instr.specs.Ram.{word_at}
use Rattle.masked_code.proofs.Owes.{◌▸◌, writes, loads, loads_byte, AreOfLine, Owes, Pending, Enabled}
use Rattle.masked_code.proofs.Arrivals.{has, byte_after}
use Rattle.masked_code.specs.Place.{offset_state}
use Rattle.masked_code.proofs.Leave.{behind}
use Rattle.masked_code.proofs.Spread.{based, spread_from}
use Rattle.masked_code.proofs.Routines.{masked}
use Rattle.block_parts.specs.SuspensionTest.{IsFoundSuspended}
use Rattle.block_parts.specs.Pieces.{looking_code}

-- a pending byte stays a bit under arrivals
pub bit_arrives : (lines bytes : List ℕ) (k : ℕ) → k < length bytes → get_or bytes k 0 < 2 → get_or (arrive lines bytes) k 0 < 2
bit_arrives lines bytes k h small =
    let e = byte_after lines bytes k h in
    ⊎_elim
    (λ b. let f : get_or (arrive lines bytes) k 0 ≡ 1 = e ∙ ap (λ x. cond x 1 (get_or bytes k 0)) b in omega arith)
    (λ b. let f : get_or (arrive lines bytes) k 0 ≡ get_or bytes k 0 = e ∙ ap (λ x. cond x 1 (get_or bytes k 0)) b in omega arith)
    (cases_Bool (has lines k))

-- what the code computes of three bits
abbrev pub suspended_of : ℕ → ℕ → ℕ → ℕ
suspended_of e p a = one_if (nat_lt a (one_if (nat_lt p e)))

-- the three bits that are looked at tell a Suspended task from all others
pub suspends : (e p a : ℕ) → e < 2 → p < 2 → a < 2
    → (((a ≡ 0) × (p ≡ 0) × (e ≡ 1)) × (suspended_of e p a ≡ 1)) ⊎ ((((a ≡ 0) × (p ≡ 0) × (e ≡ 1)) → ⊥) × (suspended_of e p a ≡ 0))
suspends zero zero zero x y z = inr ((λ h. absurd (omega (arith, h.2))), refl)
suspends zero zero (suc zero) x y z = inr ((λ h. absurd (omega (arith, h.2))), refl)
suspends zero (suc zero) zero x y z = inr ((λ h. absurd (omega (arith, h.2))), refl)
suspends zero (suc zero) (suc zero) x y z = inr ((λ h. absurd (omega (arith, h.2))), refl)
suspends (suc zero) zero zero x y z = inl ((refl, refl, refl), refl)
suspends (suc zero) zero (suc zero) x y z = inr ((λ h. absurd (omega (arith, h.0))), refl)
suspends (suc zero) (suc zero) zero x y z = inr ((λ h. absurd (omega (arith, h.1))), refl)
suspends (suc zero) (suc zero) (suc zero) x y z = inr ((λ h. absurd (omega (arith, h.1))), refl)
suspends e p (suc (suc a)) x y z = absurd (omega arith)
suspends e (suc (suc p)) a x y z = absurd (omega arith)
suspends (suc (suc e)) p a x y z = absurd (omega arith)

-- 1 is found where the task is Suspended, else 0
abbrev pub Finds : ℕ → Core → ℕ → Type 0
Finds task core v = (IsFoundSuspended task core × (v ≡ 1)) ⊎ ((IsFoundSuspended task core → ⊥) × (v ≡ 0))

-- what is owed of the look, which finds v in x1 behind arrivals of the task's line
module _ (offset to task : ℕ) (E : List ℕ → State → State → Type 0) (rest : List InstrKind) (c : Core) (is_task : task < task_limit) (lines_32 : length c.pending ≡ line_count)
    (active_bit : word_at c.ram (active task) < 2) (pending_bit : get_or c.pending task 0 < 2) (enabled_bit : get_or c.enabled task 0 < 2) where
  abbrev x2 : ℕ
  x2 = get_or c.registers 2 0

  abbrev tail : List ℕ
  tail = spread_from 27 5 c.registers

  -- what is owed of the look: of the code behind it, for each value that it may find, whatever arrived of the task before
  pub looks_owe : (o x1 x10 : ℕ)
      → ((lines : List ℕ) (v : ℕ) → AreOfLine task lines → Finds task (record c { pending = arrive lines c.pending }) v
      → Owes offset to (behind 5 o) rest 0 (λ touched. E (task ∷ touched)) (offset_state offset (record (based c) { pending = arrive lines c.pending }))
      (record (masked (based c)) { registers = 0 ∷ v ∷ x2 ∷ controller_base ∷ memory_base ∷ set tail 5 (word_at c.ram (active task)); pending = arrive lines c.pending }))
      → Owes offset to o (looking_code task ++ rest) 0 E (offset_state offset (based c))
      (record (masked (based c)) { registers = 0 ∷ x1 ∷ x2 ∷ controller_base ∷ memory_base ∷ set tail 5 x10 })
  looks_owe o x1 x10 go =
      let e = get_or c.enabled task 0 in
      let a = word_at c.ram (active task) in
      loads_byte (Enabled task) (omega arith, omega arith)
      ▸ loads_byte (Pending task) (omega arith, omega arith)
      ▸ λ lines only.
      let q = get_or (arrive lines c.pending) task 0 in
      writes (one_if (nat_lt q e)) refl
      ▸ loads (active task) (record { is = omega arith; aligned = omega arith; inside = omega arith }) a refl
      ▸ writes (suspended_of e q a) refl
      ▸ go lines (suspended_of e q a) only
      (suspends e q a enabled_bit (bit_arrives lines c.pending task (omega arith) pending_bit) active_bit)
