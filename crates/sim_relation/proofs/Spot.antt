-- Where an entry saves the context of what runs: directly below x2.
use Rattle.std.proofs.Common.{◌≡◌, ℕ, ◌+◌, ◌%◌, ◌<◌, ◌≤◌, List, [], ◌∷◌, length, arith, ⊎_elim, inl, inr, Bool, true, false, eqb}
use Rattle.std.specs.Prelude.{◌⊎◌, slice_index}
use Rattle.std.proofs.lemmas.Bool.{eqb-false, or_left}
use Rattle.sloth_base.specs.Machine.{State}
use Rattle.sloth_base.specs.MemoryMap.{memory_bytes, memory_base}
use Rattle.sloth_region.specs.Layout.{idle_context}
use Rattle.osek_scheduler.specs.State.{System, task}
use Rattle.code_rules.specs.Code.{is_in}
use Rattle.sim_relation.specs.Build.{Build, HasFittingPlaces, IsElsewhere}
use Rattle.sim_relation.specs.Position.{thread_of}
use Rattle.sim_relation.specs.Context.{RunsFirst}
use Rattle.sim_relation.specs.Stands.{AreFalling, IsAlive, StacksApart}
use Rattle.sim_relation.proofs.Contexts.{context_below}
use Rattle.sim_relation.proofs.Tops.{falling_head}

-- whether a task is the running one
abbrev pub is_first : List ℕ → ℕ → Bool
is_first [] u = false
is_first (t ∷ below) u = eqb t u

-- the first of the stack is in it
pub is_first_in : (stack : List ℕ) (u : ℕ) → is_first stack u ≡ true → is_in u stack ≡ true
is_first_in [] u h = cc
is_first_in (t ∷ below) u h = or_left (eqb t u) (is_in u below) h

pub record Spot (b : Build) (s : System) (stack : List ℕ) (place : ℕ) : Type 0 where
  pub behind : idle_context ≤ place
  pub aligned : place % 4 ≡ 0
  pub inside : place + 128 ≤ memory_bytes
  -- outside code and data
  pub clear : (i : ℕ) → IsElsewhere b i → (i < place) ⊎ (place + 128 ≤ i)
  -- of the tasks that have something on their stacks only the running one has it in its part
  pub apart : (u : ℕ) → u < length b.config.tasks → IsAlive (task s u) → is_first stack u ≡ false → (b.top u ≤ place) ⊎ (place + 128 ≤ b.low u)

-- the context has room where it is to be saved
pub spot : (b : Build) (state : State) (s : System) (stack : List ℕ) (place : ℕ) → HasFittingPlaces b → StacksApart b s → AreFalling b s stack
    → slice_index state.core.registers 2 ≡ memory_base + (place + 128) → RunsFirst b state s stack → Spot b s stack place
spot b state s [] place fits apart f x k =
    let y = k.x2 in
    record {
      behind = omega arith;
      aligned = omega arith;
      inside = omega arith;
      clear = λ i g. let w = fits.elsewhere i g in inr (omega arith);
      apart = λ u l a e. let w = fits.from u l in inr (omega arith);
    }
spot b state s (t ∷ below) place fits apart f x k =
    let here = falling_head b s t below f in
    let p = k.context.x2 in
    let l = k.context.room in
    let a = k.context.aligned in
    let w = fits.from t here.declared in
    let z = fits.to t here.declared in
    let top = context_below b state.core.ram t (task s t) (thread_of state) k.place k.context in
    record {
      behind = omega arith;
      aligned = omega arith;
      inside = omega arith;
      clear = λ i g. ⊎_elim (λ (y : i < b.low t). inl (omega arith)) (λ (y : b.top t ≤ i). inr (omega arith)) (fits.outside t i here.declared g);
      apart = λ u h g e. ⊎_elim (λ (y : b.top t ≤ b.low u). inr (omega arith)) (λ (y : b.top u ≤ b.low t). inl (omega arith))
          (apart t u here.declared h (eqb-false t u e) (inl here.active) g);
    }
