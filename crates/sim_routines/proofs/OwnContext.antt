-- The context that is kept for a task that is to go on behind its wait.
use Rattle.std.proofs.Common.{◌≡◌, ℕ, ◌+◌, ◌<◌, ◌≤◌, List, [], ◌∷◌, length, refl, ap, arith, ⊎_elim, inr, Some, Bool, true, false}
use Rattle.std.specs.Prelude.{◌⊎◌, ◌≢◌, slice_index}
use Rattle.std.proofs.lemmas.Bool.{cases_Bool}
use Rattle.sloth_base.specs.Machine.{State}
use Rattle.sloth_base.specs.Choose.{choose}
use Rattle.sloth_base.specs.MemoryMap.{memory_base, line_count}
use Rattle.osek_scheduler.specs.declared.state.TaskState.TheVariants as mode
use Rattle.osek_scheduler.specs.State.{Frame, Task, System, task}
use Rattle.osek_scheduler.specs.Priority.{is_active}
use Rattle.sim_relation.specs.Build.{Build, HasFittingPlaces}
use Rattle.sim_relation.specs.Context.{IsRested, HasOwnContext}
use Rattle.sim_relation.specs.Stands.{Stands}
use Rattle.sim_relation.proofs.Tops.{falling_active}
use Rattle.sim_relation.proofs.Spot.{is_first, is_first_in, spot}
use Rattle.sim_relation.proofs.Choice.{taken_ready}

-- a task that is not Active and has frames has its context at an offset
pub record HasOwn (b : Build) (ram : List ℕ) (t : ℕ) (own : Task) : Type 0 where
  pub frame : Frame
  pub outer : List Frame
  pub frames : own.frames ≡ frame ∷ outer
  pub place : ℕ
  pub rested : IsRested b ram t own frame outer place

own_by : (b : Build) (ram : List ℕ) (t : ℕ) (own : Task) (a : Bool) (frames : List Frame) → a ≡ false → own.frames ≡ frames → frames ≢ [] → HasOwnContext b ram t own a frames → HasOwn b ram t own
own_by b ram t own true frames a e n h = cc
own_by b ram t own false [] a e n h = absurd (n refl)
own_by b ram t own false (frame ∷ outer) a e n h = record { frame = frame; outer = outer; frames = e; place = h.0; rested = h.1 }

module _ (b : Build) (state : State) (s : System) (t : ℕ) (fits : HasFittingPlaces b) (k : Stands b state s) (declared : t < length b.config.tasks) (e : choose state.core ≡ Some t) (some : (task s t).frames ≢ []) where
  few : length b.config.tasks ≤ line_count
  few = let f = fits.few_tasks in omega arith

  ready : (task s t).state ≡ mode.Ready
  ready = taken_ready b state s k few t declared e

  -- a task that waited has a context of its own
  pub own_context : HasOwn b state.core.ram t (task s t)
  own_context = own_by b state.core.ram t (task s t) (is_active (task s t).state) (task s t).frames (ap is_active ready) refl some (k.words t declared).resumption

  -- its part of the stacks is apart from the context that the entry stores
  pub own_apart : (place : ℕ) → slice_index state.core.registers 2 ≡ memory_base + (place + 128) → (b.top t ≤ place) ⊎ (place + 128 ≤ b.low t)
  own_apart place x2 =
      (spot b state s k.stack place fits k.apart k.active.falling x2 k.running).apart t declared (inr some)
      (⊎_elim
      (λ (a : is_first k.stack t ≡ true). absurd (let c = (falling_active b s k.stack k.active.falling t (is_first_in k.stack t a)).active in let r = ready in cc))
      (λ (a : is_first k.stack t ≡ false). a)
      (cases_Bool (is_first k.stack t)))
