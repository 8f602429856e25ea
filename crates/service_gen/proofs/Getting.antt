-- The code of GetEvent has its effect.
use Rattle.std.proofs.Common.{◌≡◌, ℕ, ◌+◌, ◌≤◌, List, ◌∷◌, ◌++◌, length, get_or, refl, arith, inl, inr}
use Rattle.std.specs.Prelude.{set}
use Rattle.sloth_base.specs.Machine.{Core, State}
use Rattle.sloth_base.specs.Arrive.{arrive}
use Rattle.sloth_base.specs.Status.{E_OK}
use Rattle.sloth_base.specs.MemoryMap.{memory_base, memory_bytes, controller_base}
use Rattle.sloth_region.specs.Layout.{active, events}
use Rattle.rv32_instr.specs.declared.InstrKind.{InstrKind}
use Rattle.rv32_instr.specs.Ram.{word_at}
use Rattle.masked_code.specs.Place.{offset_state}
use Rattle.masked_code.specs.Masked.{FromOpening}
use Rattle.masked_code.specs.Kernel.{masking}
use Rattle.masked_code.proofs.Owes.{◌▸◌, writes, loads, Owes}
use Rattle.masked_code.proofs.Spread.{based, spread_from}
use Rattle.masked_code.proofs.Routines.{masked}
use Rattle.masked_code.proofs.Leave.{behind}
use Rattle.block_parts.proofs.Returning.{goes_back_with}
use Rattle.block_parts.proofs.Busy.{Finds, looks_owe}
use Rattle.block_parts.proofs.Serving.{opens}
use Rattle.block_parts.specs.Pieces.{looking_code, back_code}
use Rattle.service_gen.proofs.Refusing.{refuses_owe}
use Rattle.block_parts.specs.Events.{refusal_code, events_telling_code}
use Rattle.service_gen.specs.GetEvent.{MayGet, GetEventEffect, IsGetEventCode}

-- the code behind the masking instruction
abbrev pub body : ℕ → List InstrKind
body task = looking_code task ++ (refusal_code 2 ++ (events_telling_code task ++ back_code))

module _ (offset task : ℕ) (c : Core) (h : MayGet offset task (masking ∷ body task) c) where
  abbrev st : List ℕ → State
  st p = offset_state offset (record (based c) { pending = p })

  abbrev x2 : ℕ
  x2 = get_or c.registers 2 0

  abbrev tail : List ℕ
  tail = spread_from 27 5 c.registers

  abbrev word : ℕ
  word = word_at c.ram (active task)

  abbrev told : ℕ
  told = word_at c.ram (events task)

  -- behind the look at the task, which found v
  looked_owe : (o : ℕ) (p : List ℕ) (v : ℕ) → o + 4 ≤ memory_bytes → Finds task (record c { pending = p }) v
      → Owes offset (offset + 4 + 44) o (refusal_code 2 ++ (events_telling_code task ++ back_code)) 0 (λ u. GetEventEffect task (task ∷ u)) (st p)
      (record (masked (based c)) { registers = 0 ∷ v ∷ x2 ∷ controller_base ∷ memory_base ∷ set tail 5 word; pending = p })
  looked_owe o p v small found =
      let few = h.is_task in
      let n : length (events_telling_code task) ≡ 2 = refl in
      refuses_owe offset (offset + 4 + 44) task (masking ∷ body task) c h.goes_back (λ u. GetEventEffect task (task ∷ u)) (events_telling_code task) o p v word
      small (omega arith) found
      (λ is_suspended end is went. record { touches = refl; told = inl (record { suspended = is_suspended; status = is; back = went }) })
      (λ not_suspended.
      writes E_OK refl
      ▸ loads (events task) (record { is = omega arith; aligned = omega arith; inside = omega arith }) told refl
      ▸ goes_back_with offset (masking ∷ body task) c h.goes_back (λ u. GetEventEffect task (task ∷ u)) v E_OK told p p c.ram
      (λ last is answer went. record {
        touches = refl;
        told = inr (record { not_suspended = not_suspended; status = is; answer = answer; back = went });
      }))

  body_owes : Owes offset (offset + 4 + 44) (offset + 4) (body task) 0 (GetEventEffect task) (offset_state offset (based c)) (masked (based c))
  body_owes =
      let fits = h.goes_back.can_run.inside in
      looks_owe offset (offset + 4 + 44) task (GetEventEffect task) (refusal_code 2 ++ (events_telling_code task ++ back_code)) c h.is_task h.goes_back.can_run.lines
      h.active_bit h.pending_bit h.enabled_bit (offset + 4) (get_or c.registers 1 0) (get_or c.registers 10 0)
      (λ lines v only found. looked_owe (behind 5 (offset + 4)) (arrive lines c.pending) v (omega arith) found)

  runs_it : FromOpening 11 (offset_state offset c) (GetEventEffect task)
  runs_it = opens offset 11 (body task) c (GetEventEffect task) h.goes_back.can_run h.goes_back.bases (omega arith) body_owes

-- for each task that is asked for
pub tells : (task : ℕ) → IsGetEventCode task (masking ∷ body task)
tells task = record { size = refl; masks = (body task, refl); runs = λ offset core h. runs_it offset task core h }
