-- An instruction of an expansion that writes registers alone.
use Rattle.std.proofs.Common.{◌≡◌, ℕ, ◌+◌, ◌%◌, ◌<◌, ◌≤◌, List, length, refl, ◌∙◌, arith, inl}
use Rattle.std.specs.Prelude.{◌⊎◌, ◌≢◌, slice_index}
use Rattle.sloth_base.specs.Machine.{State}
use Rattle.sloth_base.specs.MemoryMap.{memory_base}
use Rattle.sloth_region.specs.Layout.{context_bytes}
use Rattle.masked_code.specs.Place.{offset_state}
use Rattle.osek_scheduler.specs.State.{System, task}
use Rattle.sim_relation.specs.Build.{Build}
use Rattle.sim_relation.specs.Position.{IsPosition, InExpansion, AtBlock, thread_of}
use Rattle.sim_relation.specs.Stands.{Stands}
use Rattle.sim_relation.proofs.Machines.{kept_machine}
use Rattle.sim_items.specs.Place.{AtItem}
use Rattle.sim_items.proofs.Keeping.{same_keeps}
use Rattle.sim_items.proofs.Passing.{Passes}

-- it writes no register of task code but x2
pub registers_pass : (b : Build) (n : State) (s : System) (t : ℕ) → Stands b n s → (offset : ℕ) (registers : List ℕ)
    → length registers ≡ length n.core.registers → ((i : ℕ) → i < 30 → i ≢ 2 → slice_index registers i ≡ slice_index n.core.registers i)
    → (place : ℕ) → slice_index registers 2 ≡ memory_base + place
    → IsPosition b n.core.ram t (task s t) (thread_of (offset_state offset (record n.core { registers = registers }))) place
    → b.low t + context_bytes ≤ place → place % 4 ≡ 0 → Passes b n (offset_state offset (record n.core { registers = registers })) s t
registers_pass b n s t now offset registers long same place x2 position room aligned = record {
  machine = kept_machine b n now.fixed (memory_base + offset) registers n.core.ram long (same 0 (omega arith) (λ e. omega arith))
      (same 3 (omega arith) (λ e. omega arith) ∙ now.fixed.bases.0, same 4 (omega arith) (λ e. omega arith) ∙ now.fixed.bases.1) refl;
  level = refl;
  kept = same_keeps b n.core.ram s t;
  data_stay = λ i d. refl;
  registers = λ i l h. same i h (λ e. omega arith);
  place = place;
  x2 = x2;
  position = position;
  room = room;
  aligned = aligned;
}

-- the registers of task code, x0 and x2 stay
pub record SameRegisters (old new : List ℕ) : Type 0 where
  pub long : length new ≡ length old
  pub same : (i : ℕ) → i < 30 → slice_index new i ≡ slice_index old i

-- it keeps all but x30 and x31
pub scratch_passes : (b : Build) (n : State) (s : System) (t : ℕ) → Stands b n s → (item : AtItem b n s t) → (offset : ℕ) (registers : List ℕ) → SameRegisters n.core.registers registers
    → InExpansion b (task s t) item.frame (thread_of (offset_state offset (record n.core { registers = registers }))) ⊎ AtBlock b item.frame (thread_of (offset_state offset (record n.core { registers = registers })))
    → Passes b n (offset_state offset (record n.core { registers = registers })) s t
scratch_passes b n s t now item offset registers r stands_at =
    registers_pass b n s t now offset registers r.long (λ i l m. r.same i l) item.place (r.same 2 (omega arith) ∙ item.context.x2)
    (record {
      frame = item.frame;
      outer = item.outer;
      frames = item.frames;
      inside = item.inside;
      here = inl (record { free = item.free; frames = item.stood; here = stands_at });
    })
    item.context.room item.context.aligned
