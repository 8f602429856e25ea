-- Where code stands in the image no context does.
use Rattle.std.proofs.Common.{◌≡◌, ℕ, ◌+◌, ◌*◌, ◌<◌, ◌≤◌, List, [], ◌∷◌, length, arith, ⊎_elim, inl, inr}
use Rattle.std.specs.Prelude.{◌⊎◌, slice_index}
use Rattle.std.proofs.lemmas.Bool.{cases_lt}
use Rattle.sloth_base.specs.Machine.{State}
use Rattle.sloth_base.specs.MemoryMap.{memory_base}
use Rattle.rv32_instr.specs.declared.InstrKind.{InstrKind}
use Rattle.osek_scheduler.specs.State.{System, task}
use Rattle.sim_relation.specs.Build.{Build, HasFittingPlaces}
use Rattle.sim_relation.specs.Position.{thread_of}
use Rattle.sim_relation.specs.Context.{RunsFirst}
use Rattle.sim_relation.specs.Stands.{AreFalling}
use Rattle.sim_relation.specs.Placed.{IsPlaced}
use Rattle.sim_relation.proofs.Contexts.{context_below}
use Rattle.sim_relation.proofs.Placed.{code_behind}
use Rattle.sim_relation.proofs.Tops.{falling_head}

-- code is apart from a task's part of the stacks
pub code_apart : (b : Build) (t offset : ℕ) (code : List InstrKind) → HasFittingPlaces b → t < length b.config.tasks → b.low t < b.top t → 0 < length code → IsPlaced b offset code
    → (b.top t ≤ offset) ⊎ (offset + 4 * length code ≤ b.low t)
code_apart b t offset code fits declared room some p =
    ⊎_elim
    (λ (h : offset < b.low t).
    ⊎_elim
    (λ (g : b.low t < offset + 4 * length code).
    ⊎_elim (λ (x : b.low t < b.low t). absurd (omega arith)) (λ (x : b.top t ≤ b.low t). absurd (omega arith))
    (fits.outside t (b.low t) declared (inl (p.is_code (b.low t) (omega arith) g))))
    (λ (g : offset + 4 * length code ≤ b.low t). inr g)
    (cases_lt (b.low t) (offset + 4 * length code)))
    (λ (h : b.low t ≤ offset).
    ⊎_elim (λ (x : offset < b.low t). absurd (omega arith)) (λ (x : b.top t ≤ offset). inl x)
    (fits.outside t offset declared (inl (p.is_code offset (omega arith) (omega arith)))))
    (cases_lt offset (b.low t))

-- and from the place of the context that is stored at an entry
pub code_beside : (b : Build) (state : State) (s : System) (stack : List ℕ) (place offset : ℕ) (code : List InstrKind) → HasFittingPlaces b → AreFalling b s stack
    → slice_index state.core.registers 2 ≡ memory_base + (place + 128) → RunsFirst b state s stack → 0 < length code → IsPlaced b offset code
    → (place + 128 ≤ offset) ⊎ (offset + 4 * length code ≤ place)
code_beside b state s [] place offset code fits f x k some p =
    let y = k.x2 in
    let h = code_behind b offset code fits some p in
    inl (omega arith)
code_beside b state s (a ∷ stack) place offset code fits f x k some p =
    let here = falling_head b s a stack f in
    let q = k.context.x2 in
    let l = k.context.room in
    let top = context_below b state.core.ram a (task s a) (thread_of state) k.place k.context in
    ⊎_elim (λ (z : b.top a ≤ offset). inl (omega arith)) (λ (z : offset + 4 * length code ≤ b.low a). inr (omega arith))
    (code_apart b a offset code fits here.declared (omega arith) some p)
