-- WaitEvent is a step, and the relation stands behind it.
use Rattle.std.proofs.Common.{◌≡◌, ℕ, ◌+◌, ◌*◌, ◌%◌, ◌<◌, ◌≤◌, List, [], ◌∷◌, length, refl, sym, ap, ◌∙◌, subst, arith, ⊎_elim, inl, inr, Bool, true, false, cond}
use Rattle.std.specs.Prelude.{slice_index, bit_and, Contains}
use Rattle.std.specs.List.{AllByRecursion}
use Rattle.std.proofs.lemmas.Bool.{ne_eqb, eq-eqb}
use Rattle.std.proofs.lemmas.List.{get_or-set_same, get_or-set_other, length-set}
use Rattle.sloth_base.specs.Machine.{State}
use Rattle.sloth_base.specs.Status.{E_OK}
use Rattle.sloth_base.specs.declared.service.Service.TheVariants as service
use Rattle.sloth_base.specs.Limits.{task_limit}
use Rattle.sloth_base.specs.MemoryMap.{memory_bytes}
use Rattle.sloth_region.specs.Layout.{cur, events, context_bytes}
use Rattle.rv32_instr.specs.Ram.{word_at}
use Rattle.rv32_expand.specs.Expansion.{mask_of}
use Rattle.masked_code.specs.Pieces.{registers_from}
use Rattle.masked_code.proofs.Words.{word_below}
use Rattle.service_gen.specs.ClearEvent.{mask_register}
use Rattle.service_gen.specs.WaitEvent.{set_of, HasNotWaited, HasWaited, WaitEventEffect}
use Rattle.osek_scheduler.specs.declared.state.TaskState.TheVariants as mode
use Rattle.osek_scheduler.specs.State.{Frame, Task, System, task, with_task}
use Rattle.osek_scheduler.specs.Meaning.{going_on_frame}
use Rattle.osek_scheduler.specs.Services.{GoesOn, Leaves, waiting_task, moved_frames, is_there}
use Rattle.osek_scheduler.proofs.ServiceStates.{answered_state}
use Rattle.osek_scheduler.specs.Steps.{settled_state}
use Rattle.sim_relation.specs.Build.{Build, HasFittingPlaces}
use Rattle.sim_relation.specs.Position.{AreFrames, thread_of}
use Rattle.sim_relation.specs.Context.{RunsTask, RunsFirst, IsRested, HasOwnContext}
use Rattle.sim_relation.specs.ServiceWords.{AreServiceWords, AreHeldWords, base_priority}
use Rattle.sim_relation.specs.Progress.{HasPassed}
use Rattle.sim_relation.specs.Stands.{Stands, IsActiveTask, AreLineBytes}
use Rattle.sim_relation.specs.Moves.{TaskLeave}
use Rattle.sim_relation.proofs.Contexts.{context_below}
use Rattle.sim_relation.proofs.Framing.{frames_kept}
use Rattle.sim_relation.proofs.Leaving.{leave_stands, still_passed}
use Rattle.sim_relation.proofs.Machines.{left_whole}
use Rattle.sim_relation.proofs.Parts.{this_task}
use Rattle.sim_relation.proofs.Placed.{first_by_word, active_by_word}
use Rattle.sim_relation.proofs.SavedRegisters.{registers_at, registers_small}
use Rattle.sim_routines.specs.ServiceSteps.{MayGoOn}
use Rattle.sim_routines.specs.Opening.{AtOpening}
use Rattle.sim_routines.specs.Served.{IsServed, IsServiceAnswer}
use Rattle.sim_routines.proofs.GoesOn.{active, free, frames_are, stood, answers_status, leaves_so}
use Rattle.sim_routines.specs.EventServiceSteps.{MayWaitAt}
use Rattle.sim_routines.proofs.WaitRam.{WaitRam, wait_ram}

module _ (b : Build) (state : State) (s : System) (t : ℕ) (own : Task) (object place kept : ℕ) (touched : List ℕ) (end : State) (fits : HasFittingPlaces b)
    (may : MayWaitAt b state s t own object place kept) (effect : WaitEventEffect t place kept touched state end) where
  abbrev goes_on : MayGoOn b state s t own service.WaitEvent object
  goes_on = may.goes_on

  abbrev is : IsServed b state s t own service.WaitEvent
  is = goes_on.is_served

  abbrev k : Stands b state s
  k = is.stands

  abbrev opening : AtOpening b state t own service.WaitEvent
  opening = is.opening

  abbrev mask : ℕ
  mask = opening.block.call.mask

  abbrev frame : Frame
  frame = opening.frame

  mask_is : slice_index state.core.registers mask_register ≡ mask
  mask_is = opening.block.mask (subst (λ v. length (mask_of v mask) ≡ 2) (sym opening.calls) refl)

  here : IsActiveTask b s t
  here = active b state s t own service.WaitEvent is fits

  set_is : set_of t state.core ≡ bit_and (task s t).events mask
  set_is =
      ap (λ x. bit_and x (slice_index state.core.registers mask_register)) (k.words t here.declared).event_mask
      ∙ ap (bit_and (task s t).events) mask_is

  touches : AllByRecursion (Contains (t ∷ t ∷ [])) touched
  touches = subst (AllByRecursion (Contains (t ∷ t ∷ []))) (sym effect.touches) tt

  names : is_there b.config own.held service.WaitEvent opening.block.call.object ≡ true
  names = refl

  abbrev waiting : System
  waiting = with_task s t (waiting_task mask (task s t))

  -- ---- one of the events is set

  stays : HasNotWaited t state end → IsServiceAnswer b s t service.WaitEvent touched end
  stays h =
      answers_status b state s t own service.WaitEvent is fits touched end t t touches names goes_on.followed h.back E_OK h.status
      (ap (λ (c : Bool). cond c (Leaves waiting) (GoesOn E_OK (answered_state E_OK t s))) (ne_eqb (bit_and (task s t).events mask) 0 (λ e. h.one_set (set_is ∙ e))))

  -- ---- none is

  module _ (h : HasWaited t place kept state end) where
    abbrev old : List ℕ
    old = state.core.ram

    abbrev new : List ℕ
    new = end.core.ram

    abbrev after : Task
    after = waiting_task mask (task s t)

    abbrev rest : List ℕ
    rest = registers_from 27 5 state.core.registers

    held_none : (task s t).held ≡ []
    held_none = ap (λ (o : Task). o.held) is.own_is ∙ may.holds_nothing

    module _ (below : List ℕ) (stack_is : k.stack ≡ t ∷ below) where
      run : RunsTask b state s t below
      run = subst (RunsFirst b state s) stack_is k.running

      few : t < task_limit
      few = let g = fits.few_tasks in let d = here.declared in omega arith

      place_is : run.place ≡ kept + context_bytes
      place_is = let a = run.context.x2 in let c = may.x2 in omega arith

      spot : (b.low t ≤ kept) × (kept + context_bytes ≤ b.top t) × (b.top t ≤ memory_bytes) × (1024 ≤ kept) × (kept % 4 ≡ 0)
      spot =
          let p = place_is in
          let r = run.context.room in
          let a = run.context.aligned in
          let w = fits.from t here.declared in
          let z = fits.to t here.declared in
          let top = context_below b old t (task s t) (thread_of state) run.place run.context in
          (omega arith, omega arith, omega arith, omega arith, omega arith)

      mem : WaitRam old new rest t kept mask (slice_index state.core.registers 31) (word_at old (place + 8)) (word_at old (place + 12))
      mem =
          let g = spot in
          subst (λ m. WaitRam old new rest t kept m (slice_index state.core.registers 31) (word_at old (place + 8)) (word_at old (place + 12))) mask_is
          (subst (λ x. WaitRam old x rest t kept (slice_index state.core.registers 30) (slice_index state.core.registers 31) (word_at old (place + 8)) (word_at old (place + 12))) (sym h.left.ram)
          (wait_ram old rest t kept (slice_index state.core.registers 30) (slice_index state.core.registers 31) (word_at old (place + 8)) (word_at old (place + 12))
          k.fixed.ram refl few g.3 g.4 (omega arith) (may.words 30) (may.words 31) (word_below old (place + 8) is.bytes) (word_below old (place + 12) is.bytes)
          (registers_small 27 5 state.core.registers may.words)))

      frames_at : AreFrames b old frame opening.outer (kept + context_bytes) (b.top t)
      frames_at =
          subst (λ p. AreFrames b old frame opening.outer p (b.top t)) place_is
          (stood b state s t own service.WaitEvent is fits run.place run.context.position)

      -- its own context, kept for the next entry
      rested : IsRested b new t after (going_on_frame frame) opening.outer kept
      rested =
          let g = spot in
          record {
            link = mem.resume_word;
            inside = goes_on.followed.more;
            pc = mem.pc_word ∙ opening.block.returns ∙ sym goes_on.followed.adjacent;
            registers = λ i l.
                let e1 : kept + 4 * 5 + 4 * i ≡ kept + 4 * (i + 5) = omega arith in
                let e2 : 5 + i ≡ i + 5 = omega arith in
                run.context.registers i l ∙ sym (ap (λ j. slice_index state.core.registers j) e2) ∙ sym (registers_at 27 5 i state.core.registers (omega arith))
                ∙ sym (mem.register_word i (omega arith)) ∙ ap (word_at new) e1;
            frames = frames_kept b old new (kept + context_bytes) (b.top t) (λ i x y. mem.high i (omega arith) (inr x)) frame opening.outer (kept + context_bytes) (omega arith) frames_at;
            room = g.0;
            aligned = g.4;
          }

      resumes : (frames : List Frame) → frames ≡ going_on_frame frame ∷ opening.outer → HasOwnContext b new t after false frames
      resumes [] e = cc
      resumes (f ∷ fs) e = subst (λ (l : List Frame). HasOwnContext b new t after false l) (sym e) (kept, rested)

      own_words : AreServiceWords b new t after
      own_words =
          let g = few in
          record {
            activity = mem.activity;
            event_mask = mem.named (events t) (omega arith) (omega arith) (λ a. omega arith) (λ a. omega arith) (λ a. omega arith) (λ a. omega arith) (λ a. omega arith)
                ∙ (k.words t here.declared).event_mask;
            wait_mask = mem.wait_word;
            resumption = resumes after.frames (ap moved_frames (frames_are b state s t own service.WaitEvent is fits));
            held = subst (λ (l : List ℕ). AreHeldWords b new (base_priority b t after) l) (sym held_none) tt;
          }

      own_line : AreLineBytes after.state (slice_index end.core.pending t) (slice_index end.core.enabled t)
      own_line =
          let f = k.fixed.enabled in
          let g = few in
          ap (λ l. slice_index l t) h.left.enabled ∙ get_or-set_same state.core.enabled t 0 0 (omega arith)

      leave : TaskLeave b state end s t after place
      leave =
          let v = k.tidy in
          let f = k.fixed in
          let g = spot in
          record {
            link = may.below;
            left = record { ram = refl; current = mem.current_word; link = mem.link_word; x2 = h.x2; loaded = h.loaded; pc = h.pc; level = h.left.running };
            machine = left_whole b state end _ f h.left (mem.long ∙ sym f.ram) refl refl refl (length-set state.core.enabled t 0);
            own_line = own_line;
            own_bit = subst (λ (p : List ℕ). slice_index p t < 2) (sym h.left.pending) (k.lines.bits t here.declared);
            other_pending = λ l n. ap (λ q. slice_index q l) h.left.pending;
            other_enabled = λ l n. ap (λ q. slice_index q l) h.left.enabled ∙ get_or-set_other state.core.enabled t l 0 0 n;
            idle = λ i x y. mem.high i x (inl (omega arith));
            elsewhere = λ i c. mem.high i (let w = fits.elsewhere i c in omega arith)
                (⊎_elim (λ (z : i < b.low t). inl (omega arith)) (λ (z : b.top t ≤ i). inr (omega arith)) (fits.outside t i here.declared c));
            others = λ u c n a i x y. mem.high i (let w = fits.from u c in omega arith)
                (⊎_elim (λ (z : b.top t ≤ b.low u). inr (omega arith)) (λ (z : b.top u ≤ b.low t). inl (omega arith)) (k.apart t u here.declared c (λ e. n (sym e)) (inl here.active) a));
            named = λ p c m n0 n1 n2 n3 n4 n5. mem.named p c m n0 n1 n2 n4 n5;
            own_words = own_words;
            at_rest = refl;
            tidy = record {
              registers = (v.each t here.declared).registers;
              at_rest = λ a. (held_none, free b state s t own service.WaitEvent is fits, refl);
              asleep = λ a. cc;
              few = (v.each t here.declared).few;
            };
          }

      stands_behind : Stands b end (settled_state waiting)
      stands_behind = leave_stands b state end s k fits t below stack_is after place leave

      passed_behind : HasPassed b end (settled_state waiting)
      passed_behind = still_passed b state end s k fits t below stack_is after place leave

    stands_waiting : Stands b end (settled_state waiting)
    stands_waiting = let f = first_by_word b state s t k.stack k.running opening.current in stands_behind f.0 f.1

    passed_waiting : HasPassed b end (settled_state waiting)
    passed_waiting = let f = first_by_word b state s t k.stack k.running opening.current in passed_behind f.0 f.1

    inside : t < length s.tasks
    inside = let v = k.tidy.tasks in let d = here.declared in omega arith

    -- the task does not run any more
    pub gone : word_at end.core.ram cur ≡ t + 1 → ⊥
    gone now =
        let a = (active_by_word b end (settled_state waiting) t stands_waiting now).active in
        let c : (task (settled_state waiting) t).state ≡ mode.Waiting mask = ap (λ (o : Task). o.state) (this_task s t after inside) in
        cc

    leaves : IsServiceAnswer b s t service.WaitEvent touched end
    leaves =
        leaves_so b state s t own service.WaitEvent is fits touched end t t touches names waiting
        (ap (λ (c : Bool). cond c (Leaves waiting) (GoesOn E_OK (answered_state E_OK t s))) (eq-eqb (bit_and (task s t).events mask) 0 (sym set_is ∙ h.none_set)))
        stands_waiting passed_waiting gone

  pub wait_answers : IsServiceAnswer b s t service.WaitEvent touched end
  wait_answers = ⊎_elim stays leaves effect.done
