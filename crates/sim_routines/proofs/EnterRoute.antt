-- From the contract of a prologue to the stretch that enters its task, anew or behind a wait.
use Rattle.std.proofs.Common.{◌≡◌, ℕ, suc, ◌+◌, ◌-◌, ◌*◌, ◌%◌, ◌<◌, ◌≤◌, List, [], ◌∷◌, length, refl, sym, ap, ◌∙◌, subst, arith, ⊎_elim, inl, inr, cond, Bool, true, false, Option, Some, None}
use Rattle.std.specs.Prelude.{◌≢◌, slice_index, IfSome, Contains}
use Rattle.std.proofs.lemmas.Bool.{cases_Bool}
use Rattle.std.proofs.lemmas.List.{length-set}
use Rattle.sloth_base.specs.declared.service.Arrival.{Arrival}
use Rattle.sloth_base.specs.declared.service.Event.TheVariants as event
use Rattle.sloth_base.specs.Machine.{Core, State}
use Rattle.sloth_base.specs.Arrive.{state_arrive}
use Rattle.sloth_base.specs.Choose.{choose}
use Rattle.sloth_base.specs.Take.{take, line_to_take, entry_state, execution_state}
use Rattle.sloth_base.specs.Owners.{owners_in, IsOwned}
use Rattle.sloth_base.specs.Stretches.{Takes, later_beginning, stretch_limit}
use Rattle.sloth_base.specs.declared.numbers.Owners.{Owners}
use Rattle.sloth_base.proofs.Stretches.{task_entry_limit}
use Rattle.sloth_region.specs.Layout.{cur}
use Rattle.rv32_instr.specs.Execute.{touched}
use Rattle.rv32_instr.specs.Ram.{word_at}
use Rattle.rv32_machine.specs.Run.{state_with_arrivals}
use Rattle.masked_code.specs.Kernel.{CanRun}
use Rattle.masked_code.specs.Place.{offset_state}
use Rattle.masked_code.specs.Masked.{Masked, WithArrivals}
use Rattle.masked_code.specs.Trace.{Trace, lines_of, touched_lines, early_arrivals, late_arrivals}
use Rattle.rv32_expand.specs.Expansion.{item_address}
use Rattle.observe.specs.Observe.{View}
use Rattle.osek_scheduler.specs.State.{Frame, System, task}
use Rattle.sloth_base.specs.Named.{declaration, body_of}
use Rattle.sloth_base.specs.MemoryMap.{memory_base, vectors_base, memory_bytes, line_count}
use Rattle.osek_scheduler.specs.Priority.{is_active}
use Rattle.osek_scheduler.specs.Services as services
use Rattle.osek_scheduler.specs.Steps.{OsekStep, settled_state}
use Rattle.vector_gen.specs.Fresh.{vector, IsTaken, MayEnter, EntryEffect}
use Rattle.vector_gen.specs.Resuming.{MayResume, ResumeEffect}
use Rattle.vector_gen.specs.Places.{IsPrologueCode}
use Rattle.vector_gen.proofs.BothKinds as kinds
use Rattle.code_lengths.specs.LongestPaths.{entry_path, enter_path}
use Rattle.sim_induction.specs.Events.{has_frames, enter_counts, stretch_counts}
use Rattle.sim_induction.specs.Admits.{IsSetting, lines_at, with_admits}
use Rattle.sim_induction.specs.Advances.{Advances}
use Rattle.sim_induction.specs.PieceLaws.{Passed, StretchLaw, IsMeasure}
use Rattle.std.specs.List.{AllByRecursion}
use Rattle.sim_induction.proofs.Follow.{booted_admits}
use Rattle.sim_induction.proofs.Routes.{Opens, Entering, entering, touches_parted, begins_entered, entered_event}
use Rattle.sim_induction.proofs.StretchPiece.{stretch_advances}
use Rattle.sim_induction.proofs.Traces.{lines_trace}
use Rattle.sim_relation.specs.Build.{Build, HasFittingPlaces, with_passed, start_level}
use Rattle.sim_relation.specs.Placed.{setting_of}
use Rattle.sim_relation.specs.Progress.{progress_in, HasPassed}
use Rattle.sim_relation.specs.Stands.{Stands}
use Rattle.sim_relation.proofs.Arrive.{stands_arrived}
use Rattle.sim_relation.proofs.Passed.{passed_arrived}
use Rattle.sim_relation.proofs.Framing.{frames_below}
use Rattle.sim_relation.proofs.Parts.{rests}
use Rattle.sim_relation.proofs.Placed.{placed_in, code_behind}
use Rattle.sim_relation.proofs.Codes.{code_apart, code_beside}
use Rattle.sim_relation.proofs.Spot.{Spot, spot}
use Rattle.sim_relation.proofs.Room.{first_room}
use Rattle.sim_routines.specs.Range.{IsSane}
use Rattle.sim_routines.specs.Entries.{StandsAlone, body_frame_words}
use Rattle.sim_routines.specs.Codes.{PrologueStands}
use Rattle.sim_routines.specs.EntrySteps.{IsBoundBehind}
use Rattle.sim_routines.proofs.BootRoute.{none_early}
use Rattle.sim_induction.proofs.Schedule.{owned_at}
use Rattle.sim_routines.proofs.Enter as anew
use Rattle.sim_routines.proofs.Resume as again
use Rattle.sim_routines.proofs.OwnContext.{HasOwn, own_context, own_apart}
use Rattle.sim_routines.proofs.Spot.{stored_at}

none_touched : (o : Option ℕ) (rest : List ℕ) → lines_of o rest ≡ [] → rest ≡ []
none_touched None rest h = h
none_touched (Some line) rest h = cc

module _ (b : Build) (passed : Passed) (view : View) (arrivals : List Arrival) (setting : IsSetting (setting_of b view arrivals)) (fits : HasFittingPlaces b) (count : ℕ) (late_count : 0 < count)
    (state : State) (s : System) (stands : Stands b state s) (bound : IsBoundBehind b passed state s) where
  few : length b.config.tasks ≤ line_count
  few = let f = fits.few_tasks in omega arith

  abbrev now : State
  now = state_with_arrivals arrivals count state

  abbrev found : System
  found = with_admits (lines_at arrivals count) s

  k : Stands b now found
  k = stands_arrived b (lines_at arrivals count) state s fits.few_tasks (owned_at (setting_of b view arrivals) setting count) stands

  -- what it preempts has passed what it had, whatever has arrived
  ran : HasPassed b now found
  ran = passed_arrived b state s (lines_at arrivals count) stands bound.ran

  abbrev Stretches : Type 0
  Stretches = (next : State) × (trace : Trace) × (end : State) × StretchLaw (setting_of b view arrivals) (Stands b) (progress_in b) passed b.passed count state s next trace end

  module _ (sane : IsSane now) (t : ℕ) (declared : t < length b.config.tasks) (chosen : choose now.core ≡ Some t) where
    taken : line_to_take now ≡ Some t
    taken = ap (λ v. cond v (choose now.core) None) k.fixed.open_to_lines ∙ chosen

    abbrev core : Core
    core = (take t now).core

    abbrev after : System
    after = settled_state (services.entered_state b.config b.app t found)

    -- ---- code with this effect, which has such a law

    module _ (most : ℕ) (short : suc most ≤ stretch_limit b.config (Takes t)) (within : suc most ≤ stretch_counts b.config b.app found (event.Enter t)) (Effect : List ℕ → State → State → Type 0) (opens : Opens Effect)
        (quiet : (lines : List ℕ) (from last : State) → Effect lines from last → lines ≡ [])
        (masked : Masked (suc most) (offset_state (vector t) core) (WithArrivals Effect (offset_state (vector t) core)))
        (law : (last : State) → Effect [] (take t now) last → OsekStep b.config b.app (event.Enter t) found after × Stands b last after × (word_at last.core.ram cur ≡ t + 1)) where
      at_vector : offset_state (vector t) core ≡ execution_state now
      at_vector =
          let e : memory_base + vector t ≡ vectors_base + 4 * t = omega arith in
          ap (λ p. record { pc = p; core = core }) e ∙ sym (ap (λ o. entry_state o now) taken)

      route : Entering arrivals most count state Effect
      route =
          entering arrivals most count state Effect opens (ap (λ o. (entry_state o now).core.mie) taken)
          (subst (λ x. Masked (suc most) x (WithArrivals Effect x)) at_vector masked)

      abbrev all_touched : List ℕ
      all_touched = lines_of (touched (execution_state now)) (touched_lines route.trace)

      untouched : all_touched ≡ []
      untouched = quiet all_touched (state_arrive (early_arrivals route.trace) (execution_state now)) route.last route.effect

      nothing_early : early_arrivals route.trace ≡ []
      nothing_early = none_early route.trace (none_touched (touched (execution_state now)) (touched_lines route.trace) untouched)

      effect : Effect [] (take t now) route.last
      effect =
          subst (λ x. Effect [] x route.last) (ap (λ o. entry_state o now) taken)
          (subst (λ x. Effect [] (state_arrive x (execution_state now)) route.last) nothing_early
          (subst (λ x. Effect x (state_arrive (early_arrivals route.trace) (execution_state now)) route.last) untouched route.effect))

      enters : OsekStep b.config b.app (event.Enter t) found after × Stands b route.last after × (word_at route.last.core.ram cur ≡ t + 1)
      enters = law route.last effect

      weight : suc route.more ≤ stretch_counts b.config b.app found (event.Enter t)
      weight = let f = route.few in omega (arith, f, within)

      touches : IfSome (touched (execution_state now)) (Contains []) × AllByRecursion (Contains []) (touched_lines route.trace)
      touches = touches_parted [] (touched (execution_state now)) (touched_lines route.trace) (subst (AllByRecursion (Contains [])) (sym untouched) tt)

      stretch : StretchLaw (setting_of b view arrivals) (Stands b) (progress_in b) passed b.passed count state s route.next route.trace route.end
      stretch =
          let in_range = lines_trace (IsOwned (owners_in b.config)) route.more (count + 1) (lines_at arrivals) route.next route.trace route.end (owned_at (setting_of b view arrivals) setting) route.steps in
          record {
            finds = stands.fixed.open_to_lines;
            goes = route.goes;
            starts = begins_entered count now route.next t taken;
            more = route.more;
            few = let f = route.few in subst (λ o. suc route.more ≤ stretch_limit b.config (later_beginning o)) (sym taken) (omega arith);
            steps = route.steps;
            ends = route.ends;
            lines = [];
            few_lines = omega arith;
            touches_first = touches.0;
            touches = touches.1;
            what = event.Enter t;
            named = tt;
            what_is = λ last p q. entered_event view count now route.next last t late_count taken (let v = ap (λ (o : Owners). o.tasks) setting.owners in let d = declared in omega arith);
            after = after;
            within = subst (λ x. suc route.more ≤ stretch_counts b.config b.app (with_admits x found) (event.Enter t)) (sym nothing_early) weight;
            step_is = subst (λ x. OsekStep b.config b.app (event.Enter t) (with_admits x found) after) (sym nothing_early) enters.0;
            passes = λ past h. tt;
            goes_on = (ap (λ (x : State). word_at x.core.ram 0) route.late_behind ∙ enters.2, bound.least);
            related = subst (λ x. Stands b x (with_admits (late_arrivals route.trace) after)) (sym route.late_behind)
                (stands_arrived b (late_arrivals route.trace) route.last after fits.few_tasks in_range.1 enters.1);
          }

      stretches : Stretches
      stretches = (route.next, route.trace, route.end, stretch)

    -- ---- the prologue

    spot_is : (place : ℕ) × (slice_index now.core.registers 2 ≡ memory_base + (place + 128))
    spot_is = stored_at b now found k.stack k.running

    abbrev place : ℕ
    place = spot_is.0

    sp : Spot b found k.stack place
    sp = spot b now found k.stack place fits k.apart k.active.falling spot_is.1 k.running

    abbrev words : ℕ
    words = body_frame_words b t

    abbrev frame : ℕ
    frame = b.top t - 4 * words

    abbrev first : ℕ
    first = item_address b.places (body_of b.app.funcs t) 0

    module _ (prologue : PrologueStands b t) where
      sizes : (0 < length prologue.code) × (length prologue.code ≤ 108 + words)
      sizes = kinds.size (declaration b.config t).extended t (start_level b t) first frame words prologue.code prologue.enters

      abbrev extended : Bool
      extended = (declaration b.config t).extended

      abbrev most_anew : ℕ
      most_anew = kinds.anew_length extended words - 1

      anew_is : suc most_anew ≡ kinds.anew_length extended words
      anew_is = let some = (kinds.anew_few extended words).0 in omega (arith, some)

      short : suc most_anew ≤ stretch_limit b.config (Takes t)
      short =
          let few = (kinds.anew_few extended words).1 in
          let w = prologue.few_words in
          let l = task_entry_limit b.config t declared in
          omega (arith, anew_is, few, w, l)

      short_again : 78 ≤ stretch_limit b.config (Takes t)
      short_again = let l = task_entry_limit b.config t declared in omega (arith, l)

      anew_within : (frames : List Frame) → frames ≡ [] → suc most_anew ≤ enter_counts b.config b.app (has_frames frames) t
      anew_within [] e = omega (arith, anew_is)
      anew_within (frame ∷ outer) e = absurd (cc)

      again_within : (resumed : Bool) → extended ≡ true → 78 ≤ enter_counts b.config b.app resumed t
      again_within resumed e = let is : enter_path b.config b.app true t ≡ 78 = ap (λ x. entry_path x true words) e in omega (arith, is)

      can_run : CanRun prologue.offset prologue.code core
      can_run = record {
        controller = k.fixed.controller;
        registers = k.fixed.registers;
        zero = k.fixed.zero;
        lines = length-set now.core.pending t 0 ∙ k.fixed.pending;
        aligned = prologue.placed.aligned;
        behind = code_behind b prologue.offset prologue.code fits sizes.0 prologue.placed;
        inside = prologue.placed.inside;
        placed = placed_in b core.ram prologue.offset prologue.code k.fixed.code prologue.placed;
      }

      is_taken : IsTaken prologue.offset t place prologue.code core
      is_taken = record {
        can_run = can_run;
        masked = refl;
        previous = k.fixed.open_to_lines;
        bases = k.fixed.bases;
        jump = prologue.jump;
        vector_word = placed_in b core.ram (vector t) _ k.fixed.code prologue.vector_word;
        to_code = prologue.to_code;
        x2 = spot_is.1;
        aligned = sp.aligned;
        behind = sp.behind;
        inside = sp.inside;
        apart = code_beside b now found k.stack place prologue.offset prologue.code fits k.active.falling spot_is.1 k.running sizes.0 prologue.placed;
      }

      -- ---- anew

      frame_room : (b.low t ≤ frame) × (frame + 4 * words ≡ b.top t) × (b.top t ≤ memory_bytes) × (frame % 4 ≡ 0) × (b.low t < b.top t)
      frame_room =
          let g = first_room b fits t declared in let z = fits.to t declared in (omega arith, omega arith, omega arith, omega arith, omega arith)

      may_enter : MayEnter prologue.offset t place frame words prologue.code core
      may_enter =
          let g = frame_room in
          record {
            taken = is_taken;
            frame_aligned = g.3;
            frame_inside = omega arith;
            frame_apart =
                ⊎_elim (λ (z : b.top t ≤ prologue.offset). inl (omega arith)) (λ (z : prologue.offset + 4 * length prologue.code ≤ b.low t). inr (omega arith))
                (code_apart b t prologue.offset prologue.code fits declared g.4 sizes.0 prologue.placed);
          }

      enters_anew : (task found t).frames ≡ [] → StandsAlone b found t → Stretches
      enters_anew fresh alone =
          stretches most_anew short (anew_within (task found t).frames fresh) (EntryEffect t (start_level b t) first place frame words) (λ lines from last e. e.left.opened) (λ lines from last e. e.touches)
          (subst (λ n. Masked n (offset_state (vector t) core) (WithArrivals (EntryEffect t (start_level b t) first place frame words) (offset_state (vector t) core))) (sym anew_is)
          (kinds.starts (declaration b.config t).extended t (start_level b t) first frame words prologue.code prologue.enters prologue.offset place core
          (fits.items (body_of b.app.funcs t) 0)
          (record {
            enters = may_enter;
            kept_none = rests b now.core.ram t (task found t) (is_active (task found t).state) (task found t).frames fresh (k.words t declared).resumption;
          })))
          (λ last e.
          let h = anew.enter_law b now last found t place fits k sane declared chosen fresh prologue.has_item alone spot_is.1 ran e in
          (h.0, h.1, anew.entered_word b now last found t place fits k sane declared chosen fresh prologue.has_item alone spot_is.1 ran e))

      -- ---- behind a wait

      module _ (some : (task found t).frames ≢ []) where
        abbrev has : HasOwn b now.core.ram t (task found t)
        has = own_context b now found t fits k declared chosen some

        may_resume : MayResume prologue.offset t place has.place prologue.code core
        may_resume =
            let r = has.rested in
            let room = r.room in
            let top = frames_below b now.core.ram has.frame has.outer (has.place + 128) (b.top t) r.frames in
            let from = fits.from t declared in
            let to = fits.to t declared in
            let at = r.pc in
            let aligned = fits.items has.frame.func has.frame.item in
            record {
              taken = is_taken;
              resumes = r.link;
              own_aligned = r.aligned;
              own_behind = omega arith;
              own_inside = omega arith;
              own_apart = ⊎_elim (λ (v : b.top t ≤ place). inl (omega arith)) (λ (v : place + 128 ≤ b.low t). inr (omega arith))
                  (own_apart b now found t fits k declared chosen some place spot_is.1);
              returns = omega arith;
            }

        enters_again : extended ≡ true → Stretches
        enters_again is =
            stretches 77 short_again (again_within (has_frames (task found t).frames) is) (ResumeEffect t (start_level b t) place has.place) (λ lines from last e. e.left.opened) (λ lines from last e. e.touches)
            ((subst (λ (x : Bool). IsPrologueCode x t (start_level b t) first frame words prologue.code) is prologue.enters).resumes prologue.offset place has.place core may_resume)
            (λ last e.
            let there = anew.there b.app (body_of b.app.funcs t) prologue.has_item in
            let h = again.resume_law b now last found t place has.place fits k sane declared chosen some there spot_is.1 has.rested.link ran e in
            (h.0, h.1, again.resumed_word b now last found t place has.place fits k sane declared chosen some there spot_is.1 has.rested.link ran e))

    -- Where the task is to start anew, the stretch is the event Enter, and the states at its end are related.
    pub enter_stretch : (task found t).frames ≡ [] → StandsAlone b found t → PrologueStands b t → Stretches
    enter_stretch fresh alone prologue = enters_anew prologue fresh alone

    -- So they are where it is to go on behind its wait.
    pub resume_stretch : (task found t).frames ≢ [] → (declaration b.config t).extended ≡ true → PrologueStands b t → Stretches
    resume_stretch some extended prologue = enters_again prologue some extended

    -- A basic task that is not Active has no frames. So in each case the relation goes on to the next count that finds MIE 1.
    module _ (basic_anew : (declaration b.config t).extended ≡ false → (task found t).frames ≡ []) (alone : (task found t).frames ≡ [] → StandsAlone b found t)
        (prologue : PrologueStands b t) where
      waited : (task found t).frames ≢ [] → (declaration b.config t).extended ≡ true
      waited some =
          ⊎_elim (λ (e : (declaration b.config t).extended ≡ true). e) (λ (e : (declaration b.config t).extended ≡ false). absurd (some (basic_anew e)))
          (cases_Bool (declaration b.config t).extended)

      by_frames : (frames : List Frame) → (task found t).frames ≡ frames → Stretches
      by_frames [] e = enter_stretch e (alone e) prologue
      by_frames (frame ∷ outer) e = let some : (task found t).frames ≢ [] = λ z. cc in resume_stretch some (waited some) prologue

      -- the run goes on from the taken line to where the task runs
      pub enter_advances : IsMeasure (setting_of b view arrivals) (progress_in b) state s
          → Advances (setting_of b view arrivals) (λ p. Stands (with_passed b p)) (progress_in b) passed count state s
      enter_advances measure =
          let h = by_frames (task found t).frames refl in
          stretch_advances (setting_of b view arrivals) setting (λ p. Stands (with_passed b p)) (progress_in b) passed b.passed count late_count state s h.0 h.1 h.2 h.3
          stands.tidy.booted (sym (booted_admits (late_arrivals h.1) h.3.after) ∙ h.3.related.tidy.booted) measure
