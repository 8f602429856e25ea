-- The way back to the caller: what is owed of it, and what its end leaves.
use Rattle.std.proofs.Common.{◌≡◌, ℕ, ◌-◌, ◌%◌, ◌<◌, ◌≤◌, ◌⊎◌, List, [], ◌∷◌, length, get_or, refl, ◌∙◌, arith, ⊎_elim}
use Rattle.std.specs.Prelude.{true, set, slice_index, ◌≢◌}
use Rattle.std.proofs.lemmas.List.{get_or-set_other}
use Rattle.sloth_base.specs.Machine.{Core, State}
use Rattle.sloth_base.specs.MemoryMap.{memory_base, controller_base}
use Rattle.rv32_instr.specs.declared.InstrKind.{InstrKind}
use Rattle.masked_code.specs.Place.{offset_state}
use Rattle.masked_code.proofs.Owes.{◌▸◌, accesses, Owes}
use Rattle.masked_code.proofs.Spread.{based, spread_from, others}
use Rattle.masked_code.proofs.Routines.{masked}
use Rattle.block_parts.specs.Back.{CanGoBack, BackEffect, a0, a1}
use Rattle.block_parts.specs.Pieces.{level_back_code, back_code}

module _ (offset : ℕ) (code : List InstrKind) (c : Core) (can : CanGoBack offset code c) where
  abbrev x2 : ℕ
  x2 = get_or c.registers 2 0

  abbrev x31 : ℕ
  x31 = get_or c.registers 31 0

  abbrev tail : List ℕ
  tail = spread_from 27 5 c.registers

  -- the state at the start, where these lines are pending
  abbrev start : List ℕ → State
  start pending = offset_state offset (record (based c) { pending = pending })

  -- the core that is left, and the state at the end, with x1, the level in plevel, and the registers from x5 on
  abbrev left : ℕ → List ℕ → List ℕ → Core
  left level pending ram = record (based c) { ilevel = level; pending = pending; ram = ram }

  abbrev end : ℕ → ℕ → List ℕ → List ℕ → List ℕ → State
  end x1 goes_to rest pending ram =
      record {
        pc = x31 - x31 % 4;
        core = record (based c) { registers = 0 ∷ x1 ∷ x2 ∷ controller_base ∷ memory_base ∷ rest; mepc = x31 - x31 % 4; plevel = goes_to; ilevel = goes_to; mie = c.mpie; mpie = true; pending = pending; ram = ram };
      }

  returned : (last x1 goes_to level : ℕ) (rest before pending ram : List ℕ) → length rest ≡ 27 → goes_to ≡ level → ((i : ℕ) → 5 ≤ i → (i < a0) ⊎ (last < i) → get_or (0 ∷ x1 ∷ x2 ∷ controller_base ∷ memory_base ∷ rest) i 0 ≡ get_or (based c).registers i 0) → BackEffect last (left level pending ram) (start before) (end x1 goes_to rest pending ram)
  returned last x1 goes_to level rest before pending ram long running kept =
      let aligned = can.back in
      record {
        left = record { zero = refl; registers = omega arith; bases = (refl, refl); opened = can.previous; previous = refl; running = running; same_level = refl; pending = refl; enabled = refl; levels = refl; ram = refl; scratch = refl; controller = refl };
        pc = omega arith;
        x2 = refl;
        kept = kept;
      }

  other : (x1 i : ℕ) → 5 ≤ i → get_or (0 ∷ x1 ∷ x2 ∷ controller_base ∷ memory_base ∷ tail) i 0 ≡ get_or (based c).registers i 0
  other x1 i past = others x1 x2 controller_base memory_base (get_or c.registers 1 0) x2 controller_base memory_base tail i past

  not_a0 : (last i : ℕ) → a0 ≤ last → (i < a0) ⊎ (last < i) → i ≢ 10
  not_a0 last i h apart e = ⊎_elim (λ below. absurd (omega arith)) (λ above. absurd (omega arith)) apart

  not_a1 : (i : ℕ) → (i < a0) ⊎ (a1 < i) → i ≢ 11
  not_a1 i apart e = ⊎_elim (λ below. absurd (omega arith)) (λ above. absurd (omega arith)) apart

  -- with a status
  answered : (x1 goes_to level status : ℕ) (before pending ram : List ℕ) → goes_to ≡ level → BackEffect a0 (left level pending ram) (start before) (end x1 goes_to (set tail 5 status) pending ram)
  answered x1 goes_to level status before pending ram running =
      returned a0 x1 goes_to level (set tail 5 status) before pending ram refl running
      (λ i past apart. get_or-set_other (0 ∷ x1 ∷ x2 ∷ controller_base ∷ memory_base ∷ tail) 10 i status 0 (not_a0 a0 i (omega arith) apart) ∙ other x1 i past)

  -- with a status and an answer
  answered_with : (x1 goes_to level status answer : ℕ) (before pending ram : List ℕ) → goes_to ≡ level → BackEffect a1 (left level pending ram) (start before) (end x1 goes_to (set (set tail 6 answer) 5 status) pending ram)
  answered_with x1 goes_to level status answer before pending ram running =
      let low = 0 ∷ x1 ∷ x2 ∷ controller_base ∷ memory_base ∷ tail in
      returned a1 x1 goes_to level (set (set tail 6 answer) 5 status) before pending ram refl running
      (λ i past apart. get_or-set_other (set low 11 answer) 10 i status 0 (not_a0 a1 i (omega arith) apart) ∙ get_or-set_other low 11 i answer 0 (not_a1 i apart) ∙ other x1 i past)

  -- What is owed of the way back, wherever it stands: at the level in plevel, with a status.
  pub goes_back_to : (E : List ℕ → State → State → Type 0) (x1 goes_to level status : ℕ) (before pending ram : List ℕ) → goes_to ≡ level
      → ((last : State) → slice_index last.core.registers a0 ≡ status → BackEffect a0 (left level pending ram) (start before) last → E [] (start before) last)
      → Owes 0 0 0 back_code 0 E (start before)
      (record (masked (based c)) { registers = 0 ∷ x1 ∷ x2 ∷ controller_base ∷ memory_base ∷ set tail 5 status; plevel = goes_to; pending = pending; ram = ram })
  goes_back_to E x1 goes_to level status before pending ram running go =
      accesses c.mepc refl refl
      ▸ go (end x1 goes_to (set tail 5 status) pending ram) refl (answered x1 goes_to level status before pending ram running)

  -- the same at the level in x1
  pub goes_back_at : (E : List ℕ → State → State → Type 0) (x1 level status : ℕ) (before pending ram : List ℕ) → x1 % 256 ≡ level
      → ((last : State) → slice_index last.core.registers a0 ≡ status → BackEffect a0 (left level pending ram) (start before) last → E [] (start before) last)
      → Owes 0 0 0 level_back_code 0 E (start before)
      (record (masked (based c)) { registers = 0 ∷ x1 ∷ x2 ∷ controller_base ∷ memory_base ∷ set tail 5 status; pending = pending; ram = ram })
  goes_back_at E x1 level status before pending ram running go =
      accesses c.plevel refl refl
      ▸ goes_back_to E x1 (x1 % 256) level status before pending ram running go

  -- at the level that runs, which plevel holds
  pub goes_back : (E : List ℕ → State → State → Type 0) (x1 status : ℕ) (before pending ram : List ℕ)
      → ((last : State) → slice_index last.core.registers a0 ≡ status → BackEffect a0 (left c.ilevel pending ram) (start before) last → E [] (start before) last)
      → Owes 0 0 0 back_code 0 E (start before)
      (record (masked (based c)) { registers = 0 ∷ x1 ∷ x2 ∷ controller_base ∷ memory_base ∷ set tail 5 status; pending = pending; ram = ram })
  goes_back E x1 status before pending ram go = goes_back_to E x1 c.plevel c.ilevel status before pending ram can.same_level go

  -- with a status and an answer
  pub goes_back_with : (E : List ℕ → State → State → Type 0) (x1 status answer : ℕ) (before pending ram : List ℕ)
      → ((last : State) → slice_index last.core.registers a0 ≡ status → slice_index last.core.registers a1 ≡ answer
      → BackEffect a1 (left c.ilevel pending ram) (start before) last → E [] (start before) last)
      → Owes 0 0 0 back_code 0 E (start before)
      (record (masked (based c)) { registers = 0 ∷ x1 ∷ x2 ∷ controller_base ∷ memory_base ∷ set (set tail 6 answer) 5 status; pending = pending; ram = ram })
  goes_back_with E x1 status answer before pending ram go =
      accesses c.mepc refl refl
      ▸ go (end x1 c.plevel (set (set tail 6 answer) 5 status) pending ram) refl refl
      (answered_with x1 c.plevel c.ilevel status answer before pending ram can.same_level)
