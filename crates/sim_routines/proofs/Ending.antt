-- Where a service ends its caller, the relation stands behind it.
use Rattle.std.proofs.Common.{◌≡◌, ℕ, ◌+◌, ◌<◌, List, [], ◌∷◌, length, refl, sym, ap, ◌∙◌, subst, arith, false}
use Rattle.std.specs.Prelude.{slice_index}
use Rattle.std.proofs.lemmas.List.{get_or-set_same, get_or-set_other, length-set}
use Rattle.sloth_base.specs.declared.service.Service.{Service}
use Rattle.sloth_base.specs.Machine.{State}
use Rattle.sloth_base.specs.Limits.{task_limit}
use Rattle.sloth_region.specs.Layout.{cur, resume}
use Rattle.rv32_instr.specs.Ram.{word_at}
use Rattle.masked_code.proofs.Words.{word_below}
use Rattle.service_gen.specs.TerminateTask.{TerminateTaskEffect}
use Rattle.osek_scheduler.specs.declared.state.TaskState.TheVariants as mode
use Rattle.osek_scheduler.specs.State.{Task, System, task, zero_registers}
use Rattle.osek_scheduler.specs.Priority.{is_active}
use Rattle.osek_scheduler.proofs.ServiceStates.{ended_state}
use Rattle.osek_scheduler.specs.Steps.{settled_state}
use Rattle.sim_induction.proofs.Passing.{not_suspended}
use Rattle.sim_relation.specs.Build.{Build, HasFittingPlaces}
use Rattle.sim_relation.specs.Progress.{HasPassed}
use Rattle.sim_relation.specs.ServiceWords.{AreServiceWords, AreHeldWords, base_priority}
use Rattle.sim_relation.specs.Stands.{Stands, IsActiveTask, AreActive, AreLineBytes}
use Rattle.sim_relation.specs.Moves.{TaskLeave}
use Rattle.sim_relation.proofs.Machines.{left_whole}
use Rattle.sim_relation.proofs.Parts.{this_task, line_active}
use Rattle.sim_relation.proofs.Placed.{first_by_word, active_by_word}
use Rattle.sim_relation.proofs.Tops.{falling_head}
use Rattle.sim_relation.proofs.Leaving.{leave_stands, still_passed}
use Rattle.sim_relation.proofs.TaskSteps.{active_resumes}
use Rattle.sim_routines.specs.Opening.{AtOpening}
use Rattle.sim_routines.specs.ServiceSteps.{MayEnd}
use Rattle.sim_routines.proofs.EndRam.{EndRam, end_ram}

module _ (b : Build) (state : State) (s : System) (t : ℕ) (called : Task) (served : Service) (place : ℕ) (touched : List ℕ) (end : State)
    (fits : HasFittingPlaces b) (may : MayEnd b state s t called served place) (eff : TerminateTaskEffect t place touched state end) where
  abbrev k : Stands b state s
  k = may.is_served.stands

  abbrev opening : AtOpening b state t called served
  opening = may.is_served.opening

  abbrev old : List ℕ
  old = state.core.ram

  abbrev new : List ℕ
  new = end.core.ram

  abbrev next : System
  next = settled_state (ended_state t s)

  abbrev own : Task
  own = record (task s t) { state = mode.Suspended; registers = zero_registers; frames = []; events = 0; raised = false }

  -- the stack behind the task
  module _ (below : List ℕ) (stack_is : k.stack ≡ t ∷ below) where
    stack : AreActive b s (t ∷ below)
    stack = subst (AreActive b s) stack_is k.active

    here : IsActiveTask b s t
    here = falling_head b s t below stack.falling

    few30 : t < task_limit
    few30 = let g = fits.few_tasks in let h = here.declared in omega arith

    mem : EndRam old new t (word_at old (place + 8)) (word_at old (place + 12))
    mem = subst (λ x. EndRam old x t (word_at old (place + 8)) (word_at old (place + 12))) (sym eff.left.ram)
        (end_ram old t (word_at old (place + 8)) (word_at old (place + 12)) k.fixed.ram few30 (word_below old (place + 8) may.is_served.bytes) (word_below old (place + 12) may.is_served.bytes))

    resume_zero : word_at old (resume t) ≡ 0
    resume_zero = active_resumes b old t (task s t) (is_active (task s t).state) (task s t).frames (ap is_active here.active) (k.words t here.declared).resumption

    held_nil : (task s t).held ≡ []
    held_nil = ap (λ (o : Task). o.held) may.is_served.own_is ∙ may.holds_nothing

    free : (task s t).owed ≡ false
    free = ap (λ (o : Task). o.owed) may.is_served.own_is ∙ opening.free

    not_pending : slice_index end.core.pending t ≡ 0
    not_pending =
        let f = k.fixed.pending in
        let g = few30 in
        ap (λ l. slice_index l t) eff.left.pending ∙ get_or-set_same state.core.pending t 0 0 (omega arith)

    own_line : AreLineBytes own.state (slice_index end.core.pending t) (slice_index end.core.enabled t)
    own_line = (
      not_pending,
      ap (λ l. slice_index l t) eff.left.enabled
          ∙ line_active (task s t).state (slice_index state.core.pending t) (slice_index state.core.enabled t) here.active (k.lines.each t here.declared),
    )

    own_words : AreServiceWords b new t own
    own_words = let g = few30 in record {
      activity = mem.activity;
      event_mask = mem.event_mask;
      wait_mask = tt;
      resumption = mem.named (resume t) (omega arith) (omega arith) (λ a. omega arith) (λ a. omega arith) (λ a. omega arith) ∙ resume_zero;
      held = subst (λ (l : List ℕ). AreHeldWords b new (base_priority b t own) l) (sym held_nil) tt;
    }

    leave : TaskLeave b state end s t own place
    leave =
        let v = k.tidy in
        let f = k.fixed in
        record {
          link = may.below;
          left = record { ram = refl; current = mem.current_word; link = mem.link_word; x2 = eff.x2; loaded = eff.loaded; pc = eff.pc; level = eff.left.running };
          machine = left_whole b state end _ f eff.left (mem.long ∙ sym f.ram) refl refl (length-set state.core.pending t 0) refl;
          own_line = own_line;
          own_bit = let zero = not_pending in omega arith;
          other_pending = λ l n. ap (λ q. slice_index q l) eff.left.pending ∙ get_or-set_other state.core.pending t l 0 0 n;
          other_enabled = λ l n. ap (λ q. slice_index q l) eff.left.enabled;
          idle = λ i x y. mem.high i x;
          elsewhere = λ i h. let g = fits.elsewhere i h in mem.high i (omega arith);
          others = λ u h n a i x y. let g = fits.from u h in mem.high i (omega arith);
          named = λ p h m n0 n1 n2 n3 n4 n5. mem.named p m n0 n1 n2 n3;
          own_words = own_words;
          at_rest = refl;
          tidy = record {
            registers = refl;
            at_rest = λ a. (held_nil, free, refl);
            asleep = λ a. (refl, refl);
            few = (v.each t here.declared).few;
          };
        }

    stands_behind : Stands b end next
    stands_behind = leave_stands b state end s k fits t below stack_is own place leave

    passed_behind : HasPassed b end next
    passed_behind = still_passed b state end s k fits t below stack_is own place leave

  -- the relation, with what runs below the caller
  pub ended_stands : Stands b end next
  ended_stands = let f = first_by_word b state s t k.stack k.running opening.current in stands_behind f.0 f.1

  -- which has passed at least what was said of it
  pub ended_passed : HasPassed b end next
  ended_passed = let f = first_by_word b state s t k.stack k.running opening.current in passed_behind f.0 f.1

  active : IsActiveTask b s t
  active = active_by_word b state s t k opening.current

  pub inside : t < length s.tasks
  inside = let v = k.tidy.tasks in let h = active.declared in omega arith

  -- the caller's record now
  pub ended_own : task next t ≡ own
  ended_own = this_task s t own inside

  -- the task does not run any more
  pub elsewhere : word_at end.core.ram cur ≡ t + 1 → ⊥
  elsewhere now = not_suspended (task next t).state (active_by_word b end next t ended_stands now).active (ap (λ (o : Task). o.state) ended_own)
