-- Code that stands in the image stands in RAM, and the word at 0x80000000 names the first of the stack.
use Rattle.std.proofs.Common.{◌≡◌, ℕ, ◌+◌, ◌*◌, ◌<◌, ◌≤◌, List, [], ◌∷◌, length, ap, ◌∙◌, subst, arith, inl, true}
use Rattle.std.specs.Prelude.{slice_index}
use Rattle.sloth_base.specs.Machine.{State}
use Rattle.sloth_region.specs.Layout.{cur}
use Rattle.rv32_instr.specs.declared.InstrKind.{InstrKind}
use Rattle.rv32_instr.specs.Table.{Decode}
use Rattle.rv32_instr.specs.Ram.{word_at}
use Rattle.masked_code.specs.Place.{InPlace}
use Rattle.masked_code.proofs.Words.{word_at-agree}
use Rattle.osek_scheduler.specs.State.{System}
use Rattle.sim_relation.specs.Build.{Build, HasFittingPlaces}
use Rattle.sim_relation.specs.Context.{RunsFirst}
use Rattle.sim_relation.specs.Placed.{IsPlaced}
use Rattle.sim_relation.specs.Stands.{Stands, IsActiveTask, AreActive}
use Rattle.sim_relation.proofs.Tops.{falling_head}

-- code in place stands where its bytes are the same
pub in_place-agree : (old new : List ℕ) (code : List InstrKind) (offset : ℕ) → ((i : ℕ) → offset ≤ i → i < offset + 4 * length code → slice_index new i ≡ slice_index old i)
    → InPlace old offset code → InPlace new offset code
in_place-agree old new [] offset same h = tt
in_place-agree old new (kind ∷ code) offset same h = (
  ap Decode (word_at-agree new old offset (λ i a c. same i a (omega arith))) ∙ h.0,
  in_place-agree old new code (offset + 4) (λ i a c. same i (omega arith) (omega arith)) h.1,
)

-- code in RAM
pub placed_in : (b : Build) (ram : List ℕ) (offset : ℕ) (code : List InstrKind) → ((i : ℕ) → b.is_code i ≡ true → slice_index ram i ≡ slice_index b.memory i)
    → IsPlaced b offset code → InPlace ram offset code
placed_in b ram offset code same p = in_place-agree b.memory ram code offset (λ i a c. same i (p.is_code i a c)) p.placed

-- code stands behind the service words
pub code_behind : (b : Build) (offset : ℕ) (code : List InstrKind) → HasFittingPlaces b → 0 < length code → IsPlaced b offset code → 1024 ≤ offset
code_behind b offset code fits some p = fits.elsewhere offset (inl (p.is_code offset (omega arith) (omega arith)))

-- the task that the word names is the first of the stack
pub first_by_word : (b : Build) (state : State) (s : System) (t : ℕ) (stack : List ℕ) → RunsFirst b state s stack → word_at state.core.ram cur ≡ t + 1
    → (below : List ℕ) × (stack ≡ t ∷ below)
first_by_word b state s t [] run h = let a = run.current in absurd (omega arith)
first_by_word b state s t (u ∷ below) run h = let a = run.current in let e : u ≡ t = omega arith in (below, ap (λ v. v ∷ below) e)

-- it is Active
pub active_by_word : (b : Build) (state : State) (s : System) (t : ℕ) → Stands b state s → word_at state.core.ram cur ≡ t + 1 → IsActiveTask b s t
active_by_word b state s t k h =
    let f = first_by_word b state s t k.stack k.running h in
    falling_head b s t f.0 (subst (AreActive b s) f.1 k.active).falling
