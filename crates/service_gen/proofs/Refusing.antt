-- A service on the events of a task that may be Suspended: what is owed of the code that refuses it behind the look at the task.
use Rattle.std.proofs.Common.{◌≡◌, ℕ, ◌+◌, ◌*◌, ◌≤◌, List, [], ◌∷◌, ◌++◌, length, get_or, refl, ap, ⊎_elim}
use Rattle.std.specs.Prelude.{true, false, not, eqb, set, slice_index}
use Rattle.sloth_base.specs.Machine.{Core, State}
use Rattle.sloth_base.specs.MemoryMap.{memory_base, memory_bytes, controller_base}
use Rattle.sloth_base.specs.Status.{E_OS_STATE}
use Rattle.rv32_instr.specs.declared.InstrKind.{InstrKind}
use Rattle.masked_code.proofs.Owes.{◌▸◌, writes, Owes}
use Rattle.masked_code.specs.Place.{offset_state}
use Rattle.masked_code.proofs.Leave.{behind}
use Rattle.masked_code.proofs.Routines.{masked}
use Rattle.masked_code.proofs.Spread.{based, spread_from}
use Rattle.block_parts.proofs.Busy.{Finds}
use Rattle.block_parts.proofs.Landing.{lands}
use Rattle.block_parts.proofs.Returning.{goes_back}
use Rattle.block_parts.specs.Back.{CanGoBack, BackEffect, a0}
use Rattle.block_parts.specs.SuspensionTest.{IsFoundSuspended}
use Rattle.block_parts.specs.Pieces.{back_code}
use Rattle.block_parts.specs.Events.{refusal_code}

-- code that is passed is owed nothing
passes : (from to : ℕ) (first code : List InstrKind) (E : List ℕ → State → State → Type 0) (start : State) (c : Core) (o : ℕ)
    → ((o' : ℕ) → Owes from to o' code 0 E start c) → Owes from to o (first ++ code) (length first) E start c
passes from to [] code E start c o go = go o
passes from to (kind ∷ first) code E start c o go = passes from to first code E start c (o + 4) go

module _ (offset to task : ℕ) (code : List InstrKind) (c : Core) (can : CanGoBack offset code c) (E : List ℕ → State → State → Type 0) where
  abbrev x2 : ℕ
  x2 = get_or c.registers 2 0

  abbrev tail : List ℕ
  tail = spread_from 27 5 c.registers

  -- the start, with these lines pending
  abbrev begun : List ℕ → State
  begun p = offset_state offset (record (based c) { pending = p })

  -- the look found v: of a Suspended task the service goes back with its status, of another it goes on with `first`
  pub refuses_owe : (first : List InstrKind) (o : ℕ) (p : List ℕ) (v x10 : ℕ) → o + 4 ≤ memory_bytes → length first ≤ 68 → Finds task (record c { pending = p }) v
      → (IsFoundSuspended task (record c { pending = p }) → (end : State) → slice_index end.core.registers a0 ≡ E_OS_STATE
      → BackEffect a0 (record (based c) { pending = p }) (begun p) end → E [] (begun p) end)
      → ((IsFoundSuspended task (record c { pending = p }) → ⊥) → Owes offset to (behind 2 o) (first ++ back_code) 0 E (begun p)
      (record (masked (based c)) { registers = 0 ∷ v ∷ x2 ∷ controller_base ∷ memory_base ∷ set tail 5 E_OS_STATE; pending = p }))
      → Owes offset to o (refusal_code (length first) ++ (first ++ back_code)) 0 E (begun p)
      (record (masked (based c)) { registers = 0 ∷ v ∷ x2 ∷ controller_base ∷ memory_base ∷ set tail 5 x10; pending = p })
  refuses_owe first o p v x10 small few found suspended other =
      writes E_OS_STATE refl
      ▸ record {
        passed = length first;
        lands = lands (o + 4) (4 + 4 * length first) (length first) small few refl;
        when_taken = λ t. ⊎_elim
            (λ s. passes offset to first back_code E (begun p) _ (behind 2 o)
            (λ o'. goes_back offset code c can E v E_OS_STATE p p c.ram (λ end is went. suspended s.0 end is went)))
            (λ s. let f : not (eqb v 0) ≡ false = ap (λ x. not (eqb x 0)) s.1 in absurd (cc))
            found;
        when_not = λ n. ⊎_elim
            (λ s. let f : not (eqb v 0) ≡ true = ap (λ x. not (eqb x 0)) s.1 in absurd (n f))
            (λ s. other s.0)
            found;
      }
