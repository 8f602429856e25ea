-- The code of ActivateTask has its effect.
use Rattle.std.proofs.Common.{◌≡◌, ℕ, ◌+◌, ◌⊎◌, List, ◌∷◌, ◌++◌, get_or, refl, sym, ap, subst, arith, inl, inr, ⊎_elim}
use Rattle.std.specs.Prelude.{set, bit_xor}
use Rattle.sloth_base.specs.Machine.{Core}
use Rattle.sloth_base.specs.Arrive.{arrive}
use Rattle.rv32_instr.specs.declared.InstrKind.{InstrKind}
use Rattle.sloth_base.specs.Arithmetic.{left_shift}
use Rattle.masked_code.specs.Place.{offset_state}
use Rattle.masked_code.specs.Masked.{FromOpening}
use Rattle.masked_code.specs.Kernel.{masking}
use Rattle.masked_code.proofs.Owes.{◌▸◌, writes, raises, Owes}
use Rattle.masked_code.proofs.Spread.{based}
use Rattle.masked_code.proofs.Routines.{masked}
use Rattle.block_parts.proofs.Busy.{Finds, looks_owe}
use Rattle.block_parts.proofs.Returning.{goes_back}
use Rattle.block_parts.proofs.Serving.{opens}
use Rattle.service_gen.specs.TaskPieces.{status_code}
use Rattle.block_parts.specs.Pieces.{looking_code, raising_code, back_code}
use Rattle.service_gen.specs.ActivateTask.{MayActivate, ActivateTaskEffect, IsActivateTaskCode}
use Rattle.block_parts.specs.SuspensionTest.{IsFoundSuspended}

-- the code behind the masking instruction
abbrev pub body : ℕ → List InstrKind
body task = looking_code task ++ (status_code ++ (raising_code task ++ back_code))

-- the status that the code computes of what the look found
abbrev answer : ℕ → ℕ
answer v = left_shift (bit_xor v 1) 2

-- the status is E_OK where the task is Suspended, else E_OS_LIMIT
abbrev Answers : ℕ → Core → ℕ → Type 0
Answers task core status = (IsFoundSuspended task core × (status ≡ 0)) ⊎ ((IsFoundSuspended task core → ⊥) × (status ≡ 4))

answers : (task : ℕ) (core : Core) (v : ℕ) → Finds task core v → Answers task core (answer v)
answers task core v found = ⊎_elim (λ s. inl (s.0, ap answer s.1)) (λ s. inr (s.0, ap answer s.1)) found

module _ (offset task : ℕ) (c : Core) (h : MayActivate offset task (masking ∷ body task) c) where
  body_owes : Owes offset (offset + 4 + 44) (offset + 4) (body task) 0 (ActivateTaskEffect task) (offset_state offset (based c)) (masked (based c))
  body_owes =
      let small = h.is_task in
      looks_owe offset (offset + 4 + 44) task (ActivateTaskEffect task) (status_code ++ (raising_code task ++ back_code)) c small h.goes_back.can_run.lines h.active_bit
      h.pending_bit h.enabled_bit (offset + 4) (get_or c.registers 1 0) (get_or c.registers 10 0)
      (λ lines v only found.
      let now = arrive lines c.pending in
      writes (bit_xor v 1) refl
      ▸ writes (answer v) refl
      ▸ writes 1 refl
      ▸ raises task (omega arith, omega arith) (λ z. absurd (cc))
      ▸ goes_back offset (masking ∷ body task) c h.goes_back (λ u. ActivateTaskEffect task (task ∷ u)) 1 (answer v) now (set now task 1) c.ram
      (λ last is went. record {
        touches = refl;
        status = subst (Answers task (record c { pending = now })) (sym is) (answers task (record c { pending = now }) v found);
        back = went;
      }))

  runs_it : FromOpening 11 (offset_state offset c) (ActivateTaskEffect task)
  runs_it = opens offset 11 (body task) c (ActivateTaskEffect task) h.goes_back.can_run h.goes_back.bases (omega arith) body_owes

-- for each task
pub activates : (task : ℕ) → IsActivateTaskCode task (masking ∷ body task)
activates task = record { size = refl; masks = (body task, refl); runs = λ offset core h. runs_it offset task core h }
