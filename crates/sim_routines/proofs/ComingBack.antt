-- The way back from Schedule is a step, and the relation stands behind it: the task is at the item behind its call.
use Rattle.std.proofs.Common.{◌≡◌, ℕ, ◌+◌, ◌<◌, List, refl, sym, ap, ◌∙◌, subst, true, false}
use Rattle.std.specs.Prelude.{slice_index}
use Rattle.sloth_base.specs.Machine.{State}
use Rattle.sloth_base.specs.PriorityLevels.{level_of}
use Rattle.service_gen.specs.Schedule.{WayBackEffect, start_register}
use Rattle.osek_scheduler.specs.State.{Task, System, task, with_task}
use Rattle.sloth_base.specs.Named.{declaration}
use Rattle.osek_scheduler.specs.Steps.{settled_state}
use Rattle.sim_relation.specs.Build.{Build, HasFittingPlaces}
use Rattle.sim_relation.specs.Context.{RunsTask, RunsFirst}
use Rattle.sim_relation.specs.Moves.{moved_system}
use Rattle.sim_relation.specs.Position.{AreFrames, IsPosition, IsOwing, Thread, thread_of}
use Rattle.sim_relation.specs.ServiceWords.{AreHeldWords, base_priority}
use Rattle.sim_relation.specs.Stands.{Stands, IsActiveTask}
use Rattle.sim_relation.proofs.AtItem.{position_first}
use Rattle.sim_relation.proofs.Framing.{position_elim}
use Rattle.sim_relation.proofs.Fresh.{start_priority}
use Rattle.sim_relation.proofs.Placed.{first_by_word, active_by_word}
use Rattle.sim_routines.specs.ServiceSteps.{MayReturn, IsWayBackAnswer}
use Rattle.sim_routines.proofs.OtherLevel.{at_other_level}

clash : {X : Type 0} → true ≡ false → X
clash e = cc

-- a task that owes the way back stands before it
pub owing_of : (b : Build) (ram : List ℕ) (t : ℕ) (own : Task) (th : Thread) (place : ℕ) → own.owed ≡ true → (p : IsPosition b ram t own th place)
    → IsOwing b ram t own p.frame p.outer th place
owing_of b ram t own th place owes p =
    position_elim b ram t own p.frame p.outer th place (IsOwing b ram t own p.frame p.outer th place)
    (λ h. clash (sym owes ∙ h.free)) (λ h. h) (λ h. clash (sym owes ∙ h.free)) (λ h. clash (sym owes ∙ h.free)) p.here

module _ (b : Build) (state : State) (s : System) (t : ℕ) (touched : List ℕ) (end : State) (fits : HasFittingPlaces b) (may : MayReturn b state s t)
    (effect : WayBackEffect touched state end) where
  abbrev k : Stands b state s
  k = may.stands

  abbrev own : Task
  own = task s t

  abbrev own_now : Task
  own_now = record own { owed = false; raised = (declaration b.config t).non }

  here : IsActiveTask b s t
  here = active_by_word b state s t k may.current

  at_ram : (P : List ℕ → Type 0) → P state.core.ram → P end.core.ram
  at_ram P h = subst P (sym effect.left.ram) h

  register : (i : ℕ) → slice_index end.core.registers i ≡ slice_index state.core.registers i
  register i = ap (λ r. slice_index r i) effect.registers

  module _ (below : List ℕ) (run : RunsTask b state s t below) where
    abbrev p : IsPosition b state.core.ram t own (thread_of state) run.place
    p = run.context.position

    owing : IsOwing b state.core.ram t own p.frame p.outer (thread_of state) run.place
    owing = owing_of b state.core.ram t own (thread_of state) run.place may.owes p

    position : IsPosition b end.core.ram t own_now (thread_of end) run.place
    position =
        position_first b end.core.ram t own_now (thread_of end) run.place p.frame p.outer p.frames refl p.inside
        (effect.pc ∙ owing.returns) (at_ram (λ r. AreFrames b r p.frame p.outer run.place (b.top t)) owing.frames)

  same : (i : ℕ) → i < 25 → slice_index own.registers i ≡ slice_index end.core.registers (i + 5)
  same i l =
      let f = first_by_word b state s t k.stack k.running may.current in
      let run : RunsTask b state s t f.0 = subst (RunsFirst b state s) f.1 k.running in
      run.context.registers i l ∙ sym (register (i + 5))

  stands : Stands b end (moved_system s t own_now s.symbols)
  stands =
      at_other_level b state s k fits t may.current 0 own_now (slice_index state.core.registers start_register) state.core.ram end
      (record {
        left = effect.left;
        x2 = register 2;
        active = here.active;
        events = refl;
        long = (k.tidy.each t here.declared).registers;
        same = same;
        words = subst (λ x. AreHeldWords b state.core.ram (base_priority b t own_now) x) (sym may.holds_nothing) tt;
        few = (k.tidy.each t here.declared).few;
        ram_long = refl;
        high = λ i h. refl;
        named = λ p a n. refl;
        others = λ u r l n i. refl;
        level_is = λ below run. (owing below run).level ∙ ap (level_of b.config) (sym (start_priority b.config t own_now may.holds_nothing refl));
        position = position;
      })

  pub comes_back : IsWayBackAnswer b s t end
  comes_back = record {
    after = settled_state (with_task s t own_now);
    step_is = (k.tidy.booted, may.top, here.active, may.owes, refl);
    stands = stands;
  }
