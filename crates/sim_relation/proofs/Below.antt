-- What a generated routine needs of the contexts: their places and what they hold.
use Rattle.std.proofs.Common.{◌≡◌, ℕ, ◌+◌, ◌%◌, ◌<◌, ◌≤◌, List, [], ◌∷◌, ap, ◌∙◌, arith, ⊎_elim}
use Rattle.sloth_base.specs.Machine.{State}
use Rattle.sloth_base.specs.MemoryMap.{memory_bytes}
use Rattle.sloth_region.specs.Layout.{idle_context, context_bytes}
use Rattle.rv32_instr.specs.Ram.{word_at}
use Rattle.rv32_expand.specs.Expansion.{item_address}
use Rattle.masked_code.specs.Kernel.{IsContextBelow}
use Rattle.osek_scheduler.specs.State.{Task, System, task}
use Rattle.sim_induction.specs.Mirror.{priority_of}
use Rattle.sim_relation.specs.Build.{Build, HasFittingPlaces}
use Rattle.sim_relation.specs.Position.{Thread, thread_at, AreFrames, InExpansion, AtBlock, IsPosition}
use Rattle.sim_relation.specs.Context.{IsContextChain, RunsTask}
use Rattle.sim_relation.specs.Stands.{AreFalling, AreActive}
use Rattle.sim_relation.proofs.Levels.{level_of-few}
use Rattle.sim_relation.proofs.Framing.{position_elim}
use Rattle.sim_relation.proofs.Contexts.{context_below}
use Rattle.sim_relation.proofs.Tops.{falling_head, falling_tail}

-- each instruction before which a task may stand is at a multiple of 4
pub position_aligned : (b : Build) (ram : List ℕ) (t : ℕ) (own : Task) (th : Thread) (place : ℕ) → HasFittingPlaces b → IsPosition b ram t own th place → th.pc % 4 ≡ 0
position_aligned b ram t own th place fits p =
    let i = fits.items p.frame.func p.frame.item in
    position_elim b ram t own p.frame p.outer th place (th.pc % 4 ≡ 0)
    (λ h. ⊎_elim
    (λ (x : InExpansion b own p.frame th). let e = x.pc in omega arith)
    (λ (x : AtBlock b p.frame th). let e = x.pc in let a = fits.blocks p.frame.func p.frame.item x.call x.is in omega arith)
    h.here)
    (λ h. let e = h.pc in let a = fits.back_address in omega arith)
    (λ h. let e = h.pc in omega arith)
    (λ h. ⊎_elim
    (λ (w : (th.pc ≡ item_address b.places p.frame.func p.frame.item + 4) × AreFrames b ram p.frame p.outer place (b.top t)). let e = w.0 in omega arith)
    (λ (w : (th.pc ≡ item_address b.places p.frame.func p.frame.item + 8) × AreFrames b ram h.caller h.rest place (b.top t)). let e = w.0 in omega arith)
    h.here)
    p.here

-- where a chain begins
pub record StartsAt (ram : List ℕ) (place : ℕ) : Type 0 where
  pub aligned : place % 4 ≡ 0
  pub behind : idle_context ≤ place
  pub inside : place + context_bytes ≤ memory_bytes
  pub returns : word_at ram place % 4 ≡ 0
  pub level : word_at ram (place + 4) < 256

-- what the chain says of the next context is what a routine needs of it
pub chain_starts : (b : Build) (ram : List ℕ) (s : System) (stack : List ℕ) (place : ℕ) → HasFittingPlaces b → AreFalling b s stack → IsContextChain b ram s stack place → StartsAt ram place
chain_starts b ram s [] place fits f k =
    let p = k.is in
    let c = ap (word_at ram) p ∙ k.pc in
    let l = ap (λ j. word_at ram (j + 4)) p ∙ k.level in
    let i = fits.idle_address in
    record { aligned = omega arith; behind = omega arith; inside = omega arith; returns = omega arith; level = omega arith }
chain_starts b ram s (t ∷ below) place fits f k =
    let here = falling_head b s t below f in
    let h = here.declared in
    let low = k.0.context.room in
    let a = k.0.context.aligned in
    let top = context_below b ram t (task s t) (thread_at ram place) (place + 128) k.0.context in
    let from = fits.from t h in
    let to = fits.to t h in
    let n = fits.few_tasks in
    let l = k.0.level in
    let m = level_of-few b.config (priority_of b.config s t) in
    record {
      aligned = omega arith;
      behind = omega arith;
      inside = omega arith;
      returns = position_aligned b ram t (task s t) (thread_at ram place) (place + 128) fits k.0.context.position;
      level = omega arith;
    }

-- the running task's service finds the context of what runs below it
pub is_below : (b : Build) (state : State) (s : System) (t : ℕ) (below : List ℕ) → HasFittingPlaces b → AreActive b s (t ∷ below) → (run : RunsTask b state s t below)
    → IsContextBelow run.next state.core
is_below b state s t below fits a run =
    let c = chain_starts b state.core.ram s below run.next fits (falling_tail b s t below a.falling) run.chain in
    record { is = run.link; aligned = c.aligned; behind = c.behind; inside = c.inside; returns = c.returns; level = c.level }
