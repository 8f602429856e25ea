-- From each count that finds MIE 1 the run goes on to the next, by what runs there.
use Rattle.std.proofs.Common.{◌≡◌, ℕ, ◌+◌, ◌<◌, ◌≤◌, Bool, not, List, [], ◌∷◌, length, refl, inl, inr, sym, ap, ◌∙◌, subst, arith, true, false, Option, Some, None, ⊎_elim, cond}
use Rattle.std.specs.Prelude.{◌==◌}
use Rattle.std.proofs.lemmas.Bool.{cases_lt, eq-eqb, ne_eqb}
use Rattle.sloth_base.specs.declared.service.Arrival.{Arrival}
use Rattle.sloth_base.specs.declared.image.Image.{Image}
use Rattle.sloth_base.specs.declared.app.Call.{Call}
use Rattle.sloth_base.specs.declared.app.Op.TheVariants as op
use Rattle.sloth_base.specs.Choose.{choose}
use Rattle.sloth_base.specs.Machine.{State}
use Rattle.sloth_base.specs.Owners.{counter_line, owners_in}
use Rattle.sloth_base.proofs.Owners.{IsCounterLine}
use Rattle.rv32_machine.specs.Run.{state_with_arrivals}
use Rattle.sloth_region.specs.Layout.{cur}
use Rattle.rv32_instr.specs.Ram.{word_at}
use Rattle.masked_code.specs.Trace.{late_arrivals}
use Rattle.rv32_expand.specs.Expansion.{expansion}
use Rattle.sloth_base.specs.Named.{operation, function}
use Rattle.observe.specs.Observe.{View, view_of_image}
use Rattle.osek_scheduler.specs.declared.state.TaskState.TheVariants as mode
use Rattle.osek_scheduler.specs.State.{Frame, System, task}
use Rattle.code_rules.specs.Code.{is_in}
use Rattle.sim_induction.specs.Admits.{IsSetting, lines_at, with_admits}
use Rattle.sim_induction.specs.Advances.{Advances}
use Rattle.sim_induction.specs.PieceLaws.{Passed}
use Rattle.sim_induction.proofs.Follow.{booted_admits}
use Rattle.sim_induction.proofs.OutsidePiece.{outside_advances}
use Rattle.sim_induction.proofs.Schedule.{owned_at}
use Rattle.sim_induction.proofs.StretchPiece.{stretch_advances}
use Rattle.sim_relation.specs.Build.{Build, with_passed}
use Rattle.sim_relation.specs.Position.{IsPosition, IsStanding, IsOwing, InExpansion, AtBlock, IsCalling, IsReturning, thread_of}
use Rattle.sim_relation.specs.Context.{RunsFirst, RunsIdle, RunsTask}
use Rattle.sim_relation.specs.Stands.{Stands, AreActive, IsActiveTask}
use Rattle.sim_relation.proofs.Arrive.{stands_arrived}
use Rattle.sim_relation.proofs.Choice.{taken_cases, taken_ready}
use Rattle.sim_relation.proofs.Framing.{position_elim}
use Rattle.sim_relation.proofs.Passed.{stands_as, passed_by_word}
use Rattle.sim_relation.proofs.Tops.{falling_head}
use Rattle.sim_routines.specs.Range.{IsSane}
use Rattle.sim_routines.proofs.EnterRoute.{enter_advances}
use Rattle.sim_items.specs.Place.{AtItem, HasNumbers, IsStraight, IsFlow, IsCall, IsReturn}
use Rattle.sim_relation.specs.Placed.{setting_of}
use Rattle.sim_items.specs.Outside.{StandsAt, GoesOutside, JumpsToService, JumpsWithMask}
use Rattle.sim_items.specs.Progress.{progress_in}
use Rattle.sim_items.proofs.Call.{call_begins, call_goes_on}
use Rattle.sim_items.proofs.Return.{return_begins, return_goes_on}
use Rattle.sim_items.proofs.FlowRoute.{flow_outside}
use Rattle.sim_items.proofs.Outside.{item_outside, idle_outside}
use Rattle.sim_items.proofs.Passing.{none_passed, last_passed}
use Rattle.sim_laws.proofs.Measured.{measured}
use Rattle.sim_items.proofs.Inner.{inner_outside}
use Rattle.sim_items.proofs.Jump.{jump_outside}
use Rattle.sim_items.proofs.MaskedJump.{masked_outside}
use Rattle.sim_routines.specs.Opening.{StandsAtBlock, IsFollowed, OpensService}
use Rattle.sim_routines.specs.EntrySteps.{IsBoundBehind}
use Rattle.sim_routines.specs.Stretch.{HasStretch, OpensGoingOn}
use Rattle.sim_routines.proofs.GoingOnStretch.{activates_stretches, chain_stretches, releases_stretches, states_stretches, takes_stretches, tells_stretches}
use Rattle.sim_routines.proofs.ScheduleStretch.{back_stretches, yields_stretches}
use Rattle.sim_routines.proofs.TerminateStretch.{terminate_stretches}
use Rattle.sim_routines.proofs.Stretches as on_events
use Rattle.sim_routines.proofs.WaitStretch.{wait_stretches}
use Rattle.sim_routines.specs.AlarmSteps.{OpensAlarm}
use Rattle.sim_routines.proofs.AlarmStretches.{relative_stretches, absolute_stretches, cancel_stretches, told_stretches}
use Rattle.sim_routines.proofs.TickRoute.{tick_advances}
use Rattle.sim_laws.specs.Bounded.{IsBounded}
use Rattle.sim_laws.specs.Kernel.{Kernel, IsServiceItem, IsComputingItem, IsCallItem, IsKnownItem}
use Rattle.sim_laws.specs.Kernel.IsKnownItem.{computes, flows, invokes, returns, serves}
use Rattle.sim_laws.specs.Steady.{IsSteady}
use Rattle.sim_laws.proofs.AnyBound.{kernel_as}
use Rattle.sim_laws.proofs.Masks.{call_jumps, is_word}
use Rattle.sim_laws.proofs.Meeting.{meets}
use Rattle.sim_laws.proofs.Steady.{basic_anew, ends_free, has_internal, pauses_free, valid_sizes}
use Rattle.osek_scheduler.specs.Valid.{AreCalls, InState}
use Rattle.osek_scheduler.proofs.Facts.{Facts, facts}
use Rattle.osek_scheduler.proofs.Held.{falls_inside}
use Rattle.osek_scheduler.proofs.Going.{running}
use Rattle.osek_scheduler.proofs.Meaning.{there}
use Rattle.osek_scheduler.proofs.Stacks.{has_body}
use Rattle.code_rules.specs.Code.{IsPausing, ends_for_good, IsEnding as EndsTask}
use Rattle.osek_scheduler.specs.Services.{is_there}
use Rattle.osek_scheduler.specs.Steps.{IsAt}
use Rattle.prio_levels.specs.Levels.{AreLevels}
use Rattle.rv32_instr.specs.declared.InstrKind.{InstrKind}
use Rattle.service_gen.specs.Calls.{IsAnyServiceBlock}
use Rattle.service_gen.specs.AlarmBlock.{IsAlarmServiceBlock}
use Rattle.service_gen.specs.ClearEvent.{IsClearEventCode}
use Rattle.service_gen.specs.GetEvent.{IsGetEventCode}
use Rattle.service_gen.specs.SetEvent.{IsSetEventCode}
use Rattle.service_gen.specs.WaitEvent.{IsWaitEventCode}
use Rattle.service_gen.specs.ActivateTask.{IsActivateTaskCode}
use Rattle.service_gen.specs.ChainTask.{IsChainTaskCode}
use Rattle.service_gen.specs.GetResource.{IsGetResourceCode}
use Rattle.service_gen.specs.GetTaskID.{IsGetTaskIDCode}
use Rattle.service_gen.specs.GetTaskState.{IsGetTaskStateCode}
use Rattle.service_gen.specs.ReleaseResource.{IsReleaseResourceCode}
use Rattle.service_gen.specs.Schedule.{way_back, IsScheduleCode}
use Rattle.sim_laws.proofs.Ceilings.{may_have}
use Rattle.std.specs.Prelude.{slice_index}
use Rattle.service_gen.specs.TerminateTask.{IsTerminateTaskCode}
use Rattle.sloth_base.specs.declared.limits.Levels.{Levels}
use Rattle.sloth_base.specs.declared.service.Service.{Service}
use Rattle.sloth_base.specs.declared.service.Service.TheVariants as service
use Rattle.sloth_base.specs.MemoryMap.{memory_base, line_count}

-- ---- calls of well-formed task code

module _ (b : Build) (image : Image) (kernel : Kernel b image) (t : ℕ) where
  rules : Facts b.config b.app
  rules = facts b.config b.app kernel.well_formed

  -- a call in progress finds all that it needs
  is_call : (frame : Frame) (outer : List Frame) → AreCalls b.app t (frame ∷ outer) → frame.item < length (function b.app frame.func).items
      → (callee : ℕ) → operation b.app frame.func frame.item ≡ op.Invoke callee → IsCall b (view_of_image image) frame.func frame.item callee
  is_call frame outer chain inside callee is =
      let known = (rules.items frame.func frame.item (op.Invoke callee) (record { known = chain.0.known; inside = inside; is = is })).0 in
      let some = rules.has_items callee known in
      record { is = is; known = known; some = some; placed = kernel.items frame.func frame.item inside; first = kernel.items callee 0 some }

  -- and so does a return
  is_return : (frame caller : Frame) (rest : List Frame) → AreCalls b.app t (frame ∷ caller ∷ rest) → frame.item < length (function b.app frame.func).items
      → operation b.app frame.func frame.item ≡ op.Return → IsReturn b (view_of_image image) frame.func frame.item caller
  is_return frame caller rest chain inside is =
      let call = chain.1.1 in
      let more = falls_inside b.config b.app rules caller.func caller.item (op.Invoke frame.func) call refl in
      record {
        is = is;
        placed = kernel.items frame.func frame.item inside;
        call = call.is;
        more = more;
        calling = kernel.items caller.func caller.item call.inside;
        next = kernel.items caller.func (caller.item + 1) more;
      }

  record HasCaller (frame : Frame) (outer : List Frame) : Type 0 where
    caller : Frame
    rest : List Frame
    called_by : outer ≡ caller ∷ rest
    back : IsReturn b (view_of_image image) frame.func frame.item caller

  -- a function that returns is no task's body, so that it was called
  has_caller : t < length b.config.tasks → (frame : Frame) (outer : List Frame) → AreCalls b.app t (frame ∷ outer) → frame.item < length (function b.app frame.func).items
      → operation b.app frame.func frame.item ≡ op.Return → HasCaller frame outer
  has_caller declared frame [] chain inside is =
      let none = rules.returns_in_func frame.func frame.item (record { known = chain.0.known; inside = inside; is = is }) in
      let body = (has_body b.config b.app rules t declared).1 in
      let some : (function b.app frame.func).task ≡ Some t = ap (λ f. (function b.app f).task) chain.1 ∙ body in
      absurd (no_task (function b.app frame.func).task none some)
    where
      no_task : (o : Option ℕ) → o ≡ None → o ≡ Some t → ⊥
      no_task None e f = cc
      no_task (Some u) e f = cc
  has_caller declared frame (caller ∷ rest) chain inside is =
      record { caller = caller; rest = rest; called_by = refl; back = is_return frame caller rest chain inside is }

-- ---- the line of a task is taken

-- with the bound from its entry on: the task starts anew, or goes on behind its wait
module _ (b : Build) (image : Image) (kernel : Kernel b image) (passed : Passed) (arrivals : List Arrival) (setting : IsSetting (setting_of b (view_of_image image) arrivals))
    (count : ℕ) (after_boot : 0 < count) (state : State) (s : System) (stands : Stands b state s) (bounded : IsBounded (state_with_arrivals arrivals count state))
    (steady : IsSteady b.config b.app (with_admits (lines_at arrivals count) s)) (bound : IsBoundBehind b passed state s) where
  enters_behind : (t : ℕ) → t < length b.config.tasks → choose (state_with_arrivals arrivals count state).core ≡ Some t
      → Advances (setting_of b (view_of_image image) arrivals) (λ p. Stands (with_passed b p)) (progress_in b) passed count state s
  enters_behind t l chosen =
      let view = view_of_image image in
      let n = state_with_arrivals arrivals count state in
      let s1 = with_admits (lines_at arrivals count) s in
      let k : Stands b n s1 = stands_arrived b (lines_at arrivals count) state s kernel.fits.few_tasks (owned_at (setting_of b view arrivals) setting count) stands in
      let few : length b.config.tasks ≤ line_count = let f = kernel.fits.few_tasks in omega arith in
      let sane : IsSane n = record { pc = bounded.pc; registers = bounded.core.registers; bytes = bounded.core.bytes; level = bounded.core.level } in
      let r = taken_ready b n s1 k few t l chosen in
      enter_advances b passed view arrivals setting kernel.fits count after_boot state s stands bound sane t l chosen (basic_anew b.config b.app s1 t steady.valid l r)
      (λ fresh u h ne alive. kernel.stacks t u l h ne (meets b n s1 k few steady.valid steady.owing t l chosen u h alive)) (kernel.prologues t l)
      (measured b state s stands view arrivals)

module _ (b : Build) (image : Image) (kernel : Kernel b image) where
  abbrev view : View
  view = view_of_image image

  module _ (arrivals : List Arrival) (setting : IsSetting (setting_of b view arrivals)) (count : ℕ) (after_boot : 0 < count) (state : State) (s : System)
      (stands : Stands b state s) (bounded : IsBounded (state_with_arrivals arrivals count state)) (steady : IsSteady b.config b.app (with_admits (lines_at arrivals count) s)) where
    abbrev n : State
    n = state_with_arrivals arrivals count state

    abbrev s1 : System
    s1 = with_admits (lines_at arrivals count) s

    few : length b.config.tasks ≤ line_count
    few = let f = kernel.fits.few_tasks in omega arith

    abbrev NextAdvance : Type 0
    NextAdvance = Advances (setting_of b view arrivals) (λ p. Stands (with_passed b p)) (progress_in b) b.passed count state s

    k : Stands b n s1
    k = stands_arrived b (lines_at arrivals count) state s kernel.fits.few_tasks (owned_at (setting_of b view arrivals) setting count) stands

    -- one instruction outside the stretches
    outside : GoesOutside b view arrivals (progress_in b) count state s → NextAdvance
    outside h = outside_advances (setting_of b view arrivals) setting (λ p. Stands (with_passed b p)) (progress_in b) b.passed count state s h.0 h.1

    -- a stretch
    stretch : HasStretch b view arrivals count state s → NextAdvance
    stretch h =
        stretch_advances (setting_of b view arrivals) setting (λ p. Stands (with_passed b p)) (progress_in b) b.passed b.passed count after_boot state s h.0 h.1 h.2 h.3 stands.tidy.booted
        (sym (booted_admits (late_arrivals h.1) h.3.after) ∙ h.3.related.tidy.booted) (measured b state s stands view arrivals)

    module _ (none : choose n.core ≡ None) where
      here : StandsAt b view arrivals count state s
      here = record { fits = kernel.fits; setting = setting; after_boot = after_boot; stands = stands; none = none }

      module _ (t : ℕ) (below : List ℕ) (stack_is : k.stack ≡ t ∷ below) where
        abbrev run : RunsTask b n s1 t below
        run = subst (RunsFirst b n s1) stack_is k.running

        active : IsActiveTask b s1 t
        active = falling_head b s1 t below (subst (AreActive b s1) stack_is k.active).falling

        abbrev p : IsPosition b n.core.ram t (task s1 t) (thread_of n) run.place
        p = run.context.position

        not_fresh : is_in t s1.fresh ≡ false
        not_fresh = by (is_in t s1.fresh) refl
          where
            by : (x : Bool) → is_in t s1.fresh ≡ x → x ≡ false
            by false e = refl
            by true e = let r : (task s1 t).state ≡ mode.Ready = steady.apart.fresh_ready t e in let a = active.active in cc

        chain : AreCalls b.app t (p.frame ∷ p.outer)
        chain = subst (AreCalls b.app t) p.frames (steady.valid.each t active.declared).calls

        known : IsKnownItem b view p.frame.func p.frame.item
        known = kernel.operations p.frame.func p.frame.item p.inside

        module _ (q : IsStanding b n.core.ram (b.top t) (task s1 t) p.frame p.outer (thread_of n) run.place) where
          -- before an instruction of its item
          abbrev at_item : InExpansion b (task s1 t) p.frame (thread_of n) → AtItem b n s1 t
          at_item e = record {
            current = run.current;
            place = run.place;
            context = run.context;
            free = q.free;
            frame = p.frame;
            outer = p.outer;
            frames = p.frames;
            inside = p.inside;
            stood = q.frames;
            here = e;
          }

          abbrev size : ℕ
          size = length (expansion b.app b.places p.frame.func p.frame.item)

          numbers : HasNumbers b n s1
          numbers = record { words = bounded.core.registers; sizes = valid_sizes b.config b.app s1 steady.valid }

          -- the last one, or one before it
          item_goes : (e : InExpansion b (task s1 t) p.frame (thread_of n)) → IsComputingItem b p.frame.func p.frame.item → NextAdvance
          item_goes e h =
              let placed = kernel.items p.frame.func p.frame.item p.inside in
              ⊎_elim
              (λ (l : e.done + 1 < size). outside (inner_outside b view arrivals count state s here t (at_item e) placed h.straight l))
              (λ (l : size ≤ e.done + 1).
              let w = e.within in
              outside (item_outside b view arrivals (progress_in b) count state s here t (at_item e) numbers h.straight placed (omega arith) h.more
              (last_passed b view arrivals count state s here t run.current p.frame p.outer p.frames q.free e.done e.pc w p.inside)))
              (cases_lt (e.done + 1) size)

          -- a call
          call_goes : InExpansion b (task s1 t) p.frame (thread_of n) → IsCallItem b p.frame.func p.frame.item → NextAdvance
          call_goes e h =
              outside (call_begins b view arrivals count state s here t (at_item e) h.callee
              (is_call b image kernel t p.frame p.outer chain p.inside h.callee h.is) chain)

          -- a return
          return_goes : InExpansion b (task s1 t) p.frame (thread_of n) → operation b.app p.frame.func p.frame.item ≡ op.Return → NextAdvance
          return_goes e is =
              let c = has_caller b image kernel t active.declared p.frame p.outer chain p.inside is in
              outside (return_begins b view arrivals count state s here t c.caller c.rest (at_item e) c.called_by c.back)

          -- the mask of a call here is a word
          mask_small : (call : Call) → operation b.app p.frame.func p.frame.item ≡ op.Serve call → call.mask < 4294967296
          mask_small call is = is_word b (rules b image kernel t) p.frame.func p.frame.item call (record { known = chain.0.known; inside = p.inside; is = is })

          -- the call of a service, with a mask of events or without
          serve_goes : InExpansion b (task s1 t) p.frame (thread_of n) → IsServiceItem b view p.frame.func p.frame.item → NextAdvance
          serve_goes e h =
              let placed = kernel.items p.frame.func p.frame.item p.inside in
              ⊎_elim
              (λ (j : JumpsToService b p.frame.func p.frame.item). outside (jump_outside b view arrivals count state s here t (at_item e) placed j))
              (λ (j : JumpsWithMask b p.frame.func p.frame.item). outside (masked_outside b view arrivals count state s here t (at_item e) placed j))
              (call_jumps b view p.frame.func p.frame.item h (mask_small h.call h.is))

          in_item : InExpansion b (task s1 t) p.frame (thread_of n) → IsKnownItem b view p.frame.func p.frame.item → NextAdvance
          in_item e (computes h) = item_goes e h
          in_item e (flows h) = outside (flow_outside b view arrivals count state s here t (at_item e) h.flow (kernel.items p.frame.func))
          in_item e (invokes h) = call_goes e h
          in_item e (returns h) = return_goes e h.is
          in_item e (serves h) = serve_goes e h

          -- a service begins
          module _ (a : AtBlock b p.frame (thread_of n)) where
            abbrev object : ℕ
            object = a.call.object

            abbrev opens : (served : Service) (Contract : ℕ → List InstrKind → Type 0) → a.call.service ≡ served → StandsAtBlock b view served object (Contract object)
                → OpensService b view n s1 t served Contract
            opens served Contract is block = record {
              none = none;
              opening = record {
                current = run.current;
                free = q.free;
                frame = p.frame;
                outer = p.outer;
                frames = p.frames;
                inside = p.inside;
                block = a;
                calls = is;
              };
              block = block;
              not_fresh = not_fresh;
              bytes = bounded.core.bytes;
            }

            abbrev is_at : IsAt b.app s1 t (op.Serve a.call)
            is_at = record {
              active = active.active;
              free = q.free;
              frame = p.frame;
              outer = p.outer;
              frames = p.frames;
              inside = p.inside;
              next = a.is;
            }

            holds_nothing : EndsTask a.call.service → (task s1 t).held ≡ []
            holds_nothing ends = ends_free b.config b.app (rules b image kernel t) s1 t a.call steady.valid active.declared is_at ends

            pauses_holding_nothing : IsPausing a.call.service → (task s1 t).held ≡ []
            pauses_holding_nothing pauses = pauses_free b.config b.app (rules b image kernel t) s1 t a.call steady.valid active.declared is_at pauses

            names : (served : Service) → a.call.service ≡ served → is_there b.config (task s1 t).held served object ≡ true
            names served is =
                subst (λ v. is_there b.config (task s1 t).held v object ≡ true) is
                (there b.config b.app (rules b image kernel t) t (task s1 t) p.frame p.outer s1.symbols steady.valid.sizes a.call.service object a.call.mask
                (running b.config b.app s1 t (op.Serve a.call) steady.valid active.declared is_at))

            followed : ends_for_good a.call.service ≡ false → IsFollowed b p.frame.func p.frame.item
            followed goes =
                let more = falls_inside b.config b.app (rules b image kernel t) p.frame.func p.frame.item (op.Serve a.call)
                (record { known = chain.0.known; inside = p.inside; is = a.is }) (ap not goes) in
                record { more = more; adjacent = (kernel.items p.frame.func p.frame.item p.inside).adjacent more }

            abbrev opens_on : (served : Service) (Contract : ℕ → List InstrKind → Type 0) → a.call.service ≡ served → ends_for_good served ≡ false
                → StandsAtBlock b view served object (Contract object) → OpensGoingOn b view n s1 t served Contract
            opens_on served Contract is goes block = record {
              opens = opens served Contract is block;
              followed = followed (ap ends_for_good is ∙ goes);
              names = names served is;
            }

            abbrev opens_alarm : (served : Service) → a.call.service ≡ served → ends_for_good served ≡ false
                → StandsAtBlock b view served object (IsAlarmServiceBlock b.config served object) → OpensAlarm b view n s1 t served
            opens_alarm served is goes block = record {
              range = kernel.well_formed.in_range.configuration;
              goes_on = opens_on served (IsAlarmServiceBlock b.config served) is goes block;
              words = bounded.core.registers;
              values = steady.valid.clock.values;
            }

            served : (levels : Levels) → AreLevels b.config levels → (called : Service) → a.call.service ≡ called
                → StandsAtBlock b view called object (IsAnyServiceBlock b.config called object levels) → NextAdvance
            served levels are service.TerminateTask is block =
                stretch (terminate_stretches b view arrivals count state s t kernel.fits setting after_boot stands (record {
                  opens = opens service.TerminateTask (λ o. IsTerminateTaskCode) is block;
                  holds_nothing = holds_nothing (inl is);
                }))
            served levels are service.GetTaskID is block =
                stretch (tells_stretches b view arrivals count state s t kernel.fits setting after_boot stands (opens_on service.GetTaskID (λ o. IsGetTaskIDCode) is refl block))
            served levels are service.ActivateTask is block =
                stretch (activates_stretches b view arrivals count state s t kernel.fits setting after_boot stands (opens_on service.ActivateTask IsActivateTaskCode is refl block))
            served levels are service.ChainTask is block =
                stretch (chain_stretches b view arrivals count state s t kernel.fits setting after_boot stands (record {
                  goes_on = opens_on service.ChainTask IsChainTaskCode is refl block;
                  holds_nothing = holds_nothing (inr is);
                }))
            served levels are service.Schedule is block =
                stretch (yields_stretches b view arrivals count state s t kernel.fits setting after_boot stands (record {
                  goes_on = opens_on service.Schedule (λ o. IsScheduleCode) is refl block;
                  may = record {
                    holds_nothing = pauses_holding_nothing (inr is);
                    raised = has_internal b.config b.app s1 t a.call steady.valid active.declared is_at;
                    back =
                        (let way = kernel.way_back p.frame.func p.frame.item a.call p.inside a.is is in
                        let same : memory_base + way.offset ≡ memory_base + block.offset = sym way.block_is ∙ block.is in
                        let there : way.offset ≡ block.offset = omega arith in
                        way.is ∙ ap (λ o. memory_base + (o + way_back)) there);
                  };
                }))
            served levels are service.GetTaskState is block =
                stretch (states_stretches b view arrivals count state s t kernel.fits setting after_boot stands (opens_on service.GetTaskState IsGetTaskStateCode is refl block))
            served levels are service.GetResource is block =
                let level = slice_index levels.ceiling object in
                stretch (takes_stretches b view arrivals count state s t kernel.fits setting after_boot stands level (record {
                  goes_on = opens_on service.GetResource (λ o. IsGetResourceCode o level) is refl block;
                  may = may_have b (rules b image kernel t) levels are s1 t a.call steady.valid active.declared is_at is;
                }))
            served levels are service.ReleaseResource is block =
                stretch (releases_stretches b view arrivals count state s t kernel.fits setting after_boot stands (opens_on service.ReleaseResource IsReleaseResourceCode is refl block))
            served levels are service.SetEvent is block =
                stretch (on_events.sets_stretches b view arrivals count state s t kernel.fits setting after_boot stands (record {
                  goes_on = opens_on service.SetEvent IsSetEventCode is refl block;
                  is_word = mask_small a.call a.is;
                }))
            served levels are service.ClearEvent is block =
                stretch (on_events.clears_stretches b view arrivals count state s t kernel.fits setting after_boot stands (record {
                  goes_on = opens_on service.ClearEvent (λ o. IsClearEventCode) is refl block;
                  is_word = mask_small a.call a.is;
                }))
            served levels are service.GetEvent is block =
                stretch (on_events.tells_stretches b view arrivals count state s t kernel.fits setting after_boot stands (opens_on service.GetEvent IsGetEventCode is refl block))
            served levels are service.WaitEvent is block =
                stretch (wait_stretches b view arrivals count state s t kernel.fits setting after_boot stands (record {
                  goes_on = opens_on service.WaitEvent (λ o. IsWaitEventCode) is refl block;
                  holds_nothing = pauses_holding_nothing (inl is);
                  words = bounded.core.registers;
                }))
            served levels are service.SetRelAlarm is block =
                stretch (relative_stretches b view arrivals count state s t kernel.fits setting after_boot stands (opens_alarm service.SetRelAlarm is refl block))
            served levels are service.SetAbsAlarm is block =
                stretch (absolute_stretches b view arrivals count state s t kernel.fits setting after_boot stands (opens_alarm service.SetAbsAlarm is refl block))
            served levels are service.CancelAlarm is block =
                stretch (cancel_stretches b view arrivals count state s t kernel.fits setting after_boot stands (opens_alarm service.CancelAlarm is refl block))
            served levels are service.GetAlarm is block =
                stretch (told_stretches b view arrivals count state s t kernel.fits setting after_boot stands (opens_alarm service.GetAlarm is refl block))

          at_block : AtBlock b p.frame (thread_of n) → IsKnownItem b view p.frame.func p.frame.item → NextAdvance
          at_block a (computes h) = absurd (subst (IsStraight b.app p.frame.func) a.is h.straight)
          at_block a (flows h) = absurd (subst (IsFlow b.app p.frame.func p.frame.item) a.is h.flow)
          at_block a (invokes h) = let e : op.Invoke h.callee ≡ op.Serve a.call = sym h.is ∙ a.is in cc
          at_block a (returns h) = let e : op.Return ≡ op.Serve a.call = sym h.is ∙ a.is in cc
          at_block a (serves h) =
              let same : op.Serve h.call ≡ op.Serve a.call = sym h.is ∙ a.is in
              let call : h.call ≡ a.call = cc in
              served a h.levels h.are_levels a.call.service refl
              (subst (λ (c : Call). StandsAtBlock b view c.service c.object (IsAnyServiceBlock b.config c.service c.object h.levels)) call h.block)

          standing : NextAdvance
          standing = ⊎_elim (λ (e : InExpansion b (task s1 t) p.frame (thread_of n)). in_item e known) (λ (a : AtBlock b p.frame (thread_of n)). at_block a known) q.here

        -- behind Schedule
        owing : IsOwing b n.core.ram t (task s1 t) p.frame p.outer (thread_of n) run.place → NextAdvance
        owing w =
            let calls = steady.owing t w.owes in
            let state_is = subst (InState b.config t (task s1 t)) active.active (steady.valid.each t active.declared).in_state in
            stretch (back_stretches b view arrivals count state s t kernel.fits setting after_boot stands (record {
              none = none;
              current = run.current;
              owes = w.owes;
              holds_nothing = state_is.2 w.owes;
              object = calls.2;
              way = kernel.way_back calls.0 calls.1 (record { service = service.Schedule; object = calls.2; mask = calls.3 }) calls.5.inside calls.5.is refl;
            }))

        -- inside a call, and inside a return
        calling : IsCalling b n.core.ram (b.top t) (task s1 t) p.frame p.outer (thread_of n) run.place → NextAdvance
        calling c =
            outside (call_goes_on b view arrivals count state s here t (record {
              current = run.current;
              place = run.place;
              context = run.context;
              frame = p.frame;
              outer = p.outer;
              frames = p.frames;
              inside = p.inside;
              calling = c;
            }) (is_call b image kernel t p.frame p.outer chain p.inside c.callee c.is))

        returning : IsReturning b n.core.ram (b.top t) (task s1 t) p.frame p.outer (thread_of n) run.place → NextAdvance
        returning r =
            outside (return_goes_on b view arrivals count state s here t (record {
              current = run.current;
              place = run.place;
              context = run.context;
              frame = p.frame;
              outer = p.outer;
              frames = p.frames;
              inside = p.inside;
              returning = r;
            }) (is_return b image kernel t p.frame r.caller r.rest (subst (λ o. AreCalls b.app t (p.frame ∷ o)) r.called_by chain) p.inside r.is))

        task_goes : NextAdvance
        task_goes =
            position_elim b n.core.ram t (task s1 t) p.frame p.outer (thread_of n) run.place NextAdvance
            standing owing calling returning p.here

      by_stack : (stack : List ℕ) → k.stack ≡ stack → NextAdvance
      by_stack [] e =
          let r : RunsIdle b n = subst (RunsFirst b n s1) e k.running in
          outside (idle_outside b view arrivals (progress_in b) count state s here r.current kernel.idle (none_passed b state s r.current))
      by_stack (t ∷ below) e = task_goes t below e

    -- the bound from an entry on: what is preempted has passed what it had
    abbrev bound_behind : Passed
    bound_behind = λ u. cond (word_at state.core.ram cur == u + 1) (progress_in b state s) (b.passed u)

    is_bound : IsBoundBehind (with_passed b bound_behind) b.passed state s
    is_bound = record {
      ran = λ t named.
          let now = ap (λ x. cond x (progress_in b state s) (b.passed t)) (eq-eqb (word_at state.core.ram cur) (t + 1) named) in
          let is = passed_by_word b state s t named in
          omega (arith, now, is);
      least = λ u. omega arith;
    }

    stands_so : Stands (with_passed b bound_behind) state s
    stands_so =
        stands_as b bound_behind state s
        (λ u other. let same = ap (λ x. cond x (progress_in b state s) (b.passed u)) (ne_eqb (word_at state.core.ram cur) (u + 1) other) in omega (arith, same)) stands

    -- a task's line is taken
    enters : (t : ℕ) → t < length b.config.tasks → choose n.core ≡ Some t → NextAdvance
    enters t l chosen =
        enters_behind (with_passed b bound_behind) image (kernel_as b bound_behind image kernel) b.passed arrivals setting count after_boot state s stands_so bounded steady is_bound t l chosen

    -- a counter's line is taken: the counter ticks
    ticks : (c : ℕ) → c < length b.config.counters → choose n.core ≡ Some (counter_line c) → NextAdvance
    ticks c l chosen =
        tick_advances b view arrivals setting kernel.fits count after_boot state s stands c chosen
        (record {
          range = kernel.well_formed.in_range.configuration;
          declared = l;
          stands = k;
          value = steady.valid.clock.values c;
          bytes = bounded.core.bytes;
        })
        (kernel.ticks c l) (measured b state s stands view arrivals)

    takes : (line : ℕ) → choose n.core ≡ Some line → NextAdvance
    takes line chosen =
        ⊎_elim (λ (l : line < length b.config.tasks). enters line l chosen)
        (λ (found : (c : ℕ) × IsCounterLine (owners_in b.config) line c).
        ticks found.0 found.1.declared (subst (λ x. choose n.core ≡ Some x) found.1.is chosen))
        (taken_cases b n s1 k line chosen)

    pub advance : Advances (setting_of b view arrivals) (λ p. Stands (with_passed b p)) (progress_in b) b.passed count state s
    advance = by (choose n.core) refl
      where
        by : (o : Option ℕ) → choose n.core ≡ o → NextAdvance
        by (Some line) e = takes line e
        by None e = by_stack e k.stack refl
