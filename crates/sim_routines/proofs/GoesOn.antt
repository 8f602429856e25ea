-- Where a service goes back to its caller, the task stands at the item behind it.
use Rattle.std.proofs.Common.{◌≡◌, ℕ, ◌+◌, ◌<◌, List, [], ◌∷◌, length, set, refl, sym, ap, ◌∙◌, subst, false, true, inl, inr}
use Rattle.std.specs.Prelude.{slice_index, Contains}
use Rattle.std.specs.List.{AllByRecursion}
use Rattle.sloth_base.specs.declared.app.Op.TheVariants as op
use Rattle.sloth_base.specs.declared.service.Event.TheVariants as event
use Rattle.sloth_base.specs.declared.service.Service.{Service}
use Rattle.sloth_base.specs.Machine.{State}
use Rattle.sloth_base.specs.Named.{operation}
use Rattle.sloth_base.specs.Status.{E_OK}
use Rattle.sloth_region.specs.Layout.{cur}
use Rattle.rv32_instr.specs.Ram.{word_at}
use Rattle.masked_code.specs.Kernel.{IsOpenedCore}
use Rattle.block_parts.specs.Back.{BackEffect, a0, a1}
use Rattle.osek_scheduler.specs.State.{Frame, Task, System, task}
use Rattle.osek_scheduler.specs.Meaning.{going_on_frame}
use Rattle.osek_scheduler.specs.Services.{moved_frames, is_there, ServiceOutcome, GoesOn, Leaves}
use Rattle.osek_scheduler.proofs.ServiceStates.{answered_state, answered_state_with}
use Rattle.osek_scheduler.specs.Outcomes.{outcome}
use Rattle.osek_scheduler.specs.Steps.{OsekStep, IsServiceStep, settled_state}
use Rattle.sim_induction.proofs.Stretched.{shows_call, shows_left}
use Rattle.sim_relation.specs.Build.{Build, HasFittingPlaces}
use Rattle.sim_relation.specs.Context.{RunsTask, RunsFirst}
use Rattle.sim_relation.specs.DataStands.{DataStands}
use Rattle.sim_relation.specs.Moves.{moved_system, TaskStep}
use Rattle.sim_relation.specs.Position.{AreFrames, IsPosition, thread_of}
use Rattle.sim_relation.specs.Progress.{HasPassed}
use Rattle.sim_relation.specs.Stands.{Stands, IsActiveTask}
use Rattle.sim_relation.proofs.AtItem.{position_first}
use Rattle.sim_relation.proofs.Framing.{position_elim}
use Rattle.sim_relation.proofs.Machines.{left_same}
use Rattle.sim_relation.proofs.Placed.{first_by_word, active_by_word}
use Rattle.sim_relation.proofs.TaskSteps.{task_steps}
use Rattle.sim_routines.specs.Opening.{AtOpening, IsFollowed}
use Rattle.sim_routines.specs.Served.{IsServed, IsServiceAnswer}
use Rattle.sim_routines.proofs.Answered.{long_status, status_held, long_both, both_held}

module _ (b : Build) (state : State) (s : System) (t : ℕ) (called : Task) (served : Service) (is : IsServed b state s t called served) (fits : HasFittingPlaces b) where
  abbrev k : Stands b state s
  k = is.stands

  abbrev opening : AtOpening b state t called served
  opening = is.opening

  abbrev frame : Frame
  frame = opening.frame

  abbrev own : Task
  own = task s t

  pub frames_are : own.frames ≡ frame ∷ opening.outer
  frames_are = ap (λ (o : Task). o.frames) is.own_is ∙ opening.frames

  pub free : own.owed ≡ false
  free = ap (λ (o : Task). o.owed) is.own_is ∙ opening.free

  pub active : IsActiveTask b s t
  active = active_by_word b state s t k opening.current

  -- the task's frames stand on its stack
  pub stood : (place : ℕ) → IsPosition b state.core.ram t own (thread_of state) place → AreFrames b state.core.ram frame opening.outer place (b.top t)
  stood place p =
      let both : p.frame ∷ p.outer ≡ frame ∷ opening.outer = sym p.frames ∙ frames_are in
      let first : p.frame ≡ frame = cc in
      let rest : p.outer ≡ opening.outer = cc in
      let serves : operation b.app p.frame.func p.frame.item ≡ op.Serve opening.block.call = ap (λ (f : Frame). operation b.app f.func f.item) first ∙ opening.block.is in
      subst (λ (o : List Frame). AreFrames b state.core.ram frame o place (b.top t)) rest
      (subst (λ (f : Frame). AreFrames b state.core.ram f p.outer place (b.top t)) first
      (position_elim b state.core.ram t own p.frame p.outer (thread_of state) place (AreFrames b state.core.ram p.frame p.outer place (b.top t))
      (λ h. h.frames)
      (λ h. let e : true ≡ false = sym h.owes ∙ free in cc)
      (λ h. let e : op.Invoke h.callee ≡ op.Serve opening.block.call = sym h.is ∙ serves in cc)
      (λ h. let e : op.Return ≡ op.Serve opening.block.call = sym h.is ∙ serves in cc)
      p.here))

  pub long_registers : length own.registers ≡ 25
  long_registers = (k.tidy.each t active.declared).registers

  -- the machine's registers are the task's
  pub held_registers : (i : ℕ) → i < 25 → slice_index own.registers i ≡ slice_index state.core.registers (i + 5)
  held_registers =
      let f = first_by_word b state s t k.stack k.running opening.current in
      let run : RunsTask b state s t f.0 = subst (RunsFirst b state s) f.1 k.running in
      run.context.registers

  module _ (followed : IsFollowed b frame.func frame.item) (end : State) (left : IsOpenedCore state.core end.core) (pc : end.pc ≡ slice_index state.core.registers 31)
      (x2 : slice_index end.core.registers 2 ≡ slice_index state.core.registers 2) (registers : List ℕ) (long : length registers ≡ 25)
      (held : (i : ℕ) → i < 25 → slice_index registers i ≡ slice_index end.core.registers (i + 5)) where
    abbrev own_now : Task
    own_now = record own { registers = registers; frames = moved_frames own.frames }

    frames_now : moved_frames own.frames ≡ going_on_frame frame ∷ opening.outer
    frames_now = ap moved_frames frames_are

    at_ram : (i : ℕ) → slice_index end.core.ram i ≡ slice_index state.core.ram i
    at_ram i = ap (λ r. slice_index r i) left.ram

    module _ (below : List ℕ) (stack_is : k.stack ≡ t ∷ below) where
      run : RunsTask b state s t below
      run = subst (RunsFirst b state s) stack_is k.running

      position : IsPosition b end.core.ram t own_now (thread_of end) run.place
      position =
          position_first b end.core.ram t own_now (thread_of end) run.place (going_on_frame frame) opening.outer frames_now free followed.more
          (pc ∙ opening.block.returns ∙ sym followed.adjacent)
          (subst (λ r. AreFrames b r (going_on_frame frame) opening.outer run.place (b.top t)) (sym left.ram) (stood run.place run.context.position))

      task_step : TaskStep b state end s t own_now s.symbols
      task_step = record {
        machine = left_same b state end _ k.fixed left (ap length left.ram) refl refl refl refl;
        level = left.running;
        low = λ i x y. at_ram i;
        code = λ i h. at_ram i;
        others = λ u h m a i x y. at_ram i;
        active = active.active;
        events = refl;
        held = refl;
        raised = refl;
        registers = long;
        place = run.place;
        context = record {
          x2 = x2 ∙ run.context.x2;
          registers = held;
          position = position;
          room = run.context.room;
          aligned = run.context.aligned;
        };
        data_stands = subst (λ r. DataStands b r s.symbols) (sym left.ram) k.data_stands;
      }

      stands_behind : Stands b end (moved_system s t own_now s.symbols)
      stands_behind = task_steps b state end s k fits t below stack_is own_now s.symbols task_step

    -- the relation stands there
    pub behind : Stands b end (moved_system s t own_now s.symbols)
    behind = let f = first_by_word b state s t k.stack k.running opening.current in stands_behind f.0 f.1

  -- the relation stands behind a status
  pub behind_status : IsFollowed b frame.func frame.item → (end : State) → BackEffect a0 state.core state end → (status : ℕ)
      → slice_index end.core.registers a0 ≡ status → Stands b end (settled_state (answered_state status t s))
  behind_status followed end back status status_is =
      behind followed end back.left back.pc back.x2 (set own.registers 5 status)
      (long_status own.registers state.core.registers end.core.registers long_registers held_registers status status_is)
      (status_held own.registers state.core.registers end.core.registers long_registers held_registers status status_is back.kept)

  -- so it does with RAM and the lines as they were, whatever the service leaves of them
  pub behind_as_before : IsFollowed b frame.func frame.item → (end : State) (ram pending enabled old_ram old_pending old_enabled : List ℕ)
      → BackEffect a0 (record state.core { ram = ram; pending = pending; enabled = enabled }) state end
      → old_ram ≡ state.core.ram → old_pending ≡ state.core.pending → old_enabled ≡ state.core.enabled → (status : ℕ) → slice_index end.core.registers a0 ≡ status
      → Stands b (record { pc = end.pc; core = record end.core { ram = old_ram; pending = old_pending; enabled = old_enabled } }) (settled_state (answered_state status t s))
  behind_as_before followed end ram pending enabled old_ram old_pending old_enabled back same_ram same_pending same_enabled status status_is =
      let l = back.left in
      let left : IsOpenedCore state.core (record end.core { ram = old_ram; pending = old_pending; enabled = old_enabled }) =
      record {
        zero = l.zero;
        registers = l.registers;
        opened = l.opened;
        previous = l.previous;
        running = l.running;
        same_level = l.same_level;
        bases = l.bases;
        pending = same_pending;
        enabled = same_enabled;
        levels = l.levels;
        ram = same_ram;
        scratch = l.scratch;
        controller = l.controller;
      } in
      behind_status followed (record { pc = end.pc; core = record end.core { ram = old_ram; pending = old_pending; enabled = old_enabled } })
      (record { left = left; pc = back.pc; x2 = back.x2; kept = back.kept }) status status_is

  module _ (touched : List ℕ) (end : State) (one other : ℕ) (touches : AllByRecursion (Contains (one ∷ other ∷ [])) touched)
      (names : is_there b.config called.held served opening.block.call.object ≡ true) where
    -- the call has this outcome
    serves : (answer : ServiceOutcome) → outcome b.config served opening.block.call.object opening.block.call.mask t s ≡ answer → IsServiceStep b.config b.app t served s answer
    serves answer answer_is = record {
      top = is.top;
      call = opening.block.call;
      at = record {
        active = active.active;
        free = free;
        frame = frame;
        outer = opening.outer;
        frames = frames_are;
        inside = opening.inside;
        next = opening.block.is;
      };
      same = opening.calls;
      names = ap (λ (o : Task). is_there b.config o.held served opening.block.call.object) is.own_is ∙ names;
      is = answer_is;
    }

    -- the service answers this status
    pub answers_so : (status : ℕ) → slice_index end.core.registers a0 ≡ status → (after : System)
        → outcome b.config served opening.block.call.object opening.block.call.mask t s ≡ GoesOn status after → Stands b end (settled_state after)
        → word_at end.core.ram cur ≡ word_at state.core.ram cur → IsServiceAnswer b s t served touched end
    answers_so status status_is after answer_is stands current = record {
      one = one;
      other = other;
      touches = touches;
      after = settled_state after;
      step_is = subst (λ what. OsekStep b.config b.app what s (settled_state after))
          (sym (shows_call t served end (current ∙ opening.current) ∙ ap (λ (v : ℕ). event.Call t served v) status_is))
          (k.tidy.booted, (after, serves (GoesOn status after) answer_is, refl));
      stands = stands;
      resumes = inl (current ∙ opening.current);
    }

    -- it answers this status and does nothing else
    pub answers_status : IsFollowed b frame.func frame.item → BackEffect a0 state.core state end → (status : ℕ) → slice_index end.core.registers a0 ≡ status
        → outcome b.config served opening.block.call.object opening.block.call.mask t s ≡ GoesOn status (answered_state status t s) → IsServiceAnswer b s t served touched end
    answers_status followed back status status_is answer_is =
        answers_so status status_is (answered_state status t s) answer_is (behind_status followed end back status status_is) (ap (λ r. word_at r cur) back.left.ram)

    -- it answers a number besides
    pub answers_number : IsFollowed b frame.func frame.item → BackEffect a1 state.core state end → slice_index end.core.registers a0 ≡ E_OK
        → (number : ℕ) → slice_index end.core.registers a1 ≡ number
        → outcome b.config served opening.block.call.object opening.block.call.mask t s ≡ GoesOn E_OK (answered_state_with number t s) → IsServiceAnswer b s t served touched end
    answers_number followed back status_is number number_is answer_is =
        answers_so E_OK status_is (answered_state_with number t s) answer_is
        (behind followed end back.left back.pc back.x2 (set (set own.registers 5 E_OK) 6 number)
        (long_both own.registers state.core.registers end.core.registers long_registers held_registers E_OK status_is number number_is back.kept)
        (both_held own.registers state.core.registers end.core.registers long_registers held_registers E_OK status_is number number_is back.kept))
        (ap (λ r. word_at r cur) back.left.ram)

    -- its caller leaves
    pub leaves_so : (after : System) → outcome b.config served opening.block.call.object opening.block.call.mask t s ≡ Leaves after → Stands b end (settled_state after)
        → HasPassed b end (settled_state after) → (word_at end.core.ram cur ≡ t + 1 → ⊥) → IsServiceAnswer b s t served touched end
    leaves_so after answer_is stands passed gone = record {
      one = one;
      other = other;
      touches = touches;
      after = settled_state after;
      step_is = subst (λ what. OsekStep b.config b.app what s (settled_state after)) (sym (shows_left t served end gone))
          (k.tidy.booted, (after, serves (Leaves after) answer_is, refl));
      stands = stands;
      resumes = inr passed;
    }
