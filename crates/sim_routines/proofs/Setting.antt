-- SetEvent is a step, and the relation stands behind it.
use Rattle.std.proofs.Common.{◌≡◌, ℕ, ◌^◌, ◌<◌, List, [], ◌∷◌, length, refl, sym, ap, ◌∙◌, subst, arith, ⊎_elim, true}
use Rattle.std.specs.Prelude.{◌≢◌, ◌⊎◌, slice_index, slice_set, bit_and, bit_or, Contains}
use Rattle.std.specs.List.{AllByRecursion}
use Rattle.std.proofs.lemmas.Bool.{ltb-true}
use Rattle.std.proofs.lemmas.Nat.{or_of_32}
use Rattle.std.proofs.lemmas.List.{get_or-set_same, get_or-set_other, length-set}
use Rattle.sloth_base.specs.Machine.{State}
use Rattle.sloth_base.specs.Status.{E_OK, E_OS_STATE}
use Rattle.sloth_base.specs.declared.service.Service.TheVariants as service
use Rattle.sloth_region.specs.Layout.{events, wait}
use Rattle.rv32_instr.specs.Ram.{word_at, with_word}
use Rattle.rv32_expand.specs.Expansion.{mask_of}
use Rattle.masked_code.proofs.Words.{word_below}
use Rattle.block_parts.specs.SuspensionTest.{IsFoundSuspended}
use Rattle.block_parts.specs.Back.{BackEffect, a0}
use Rattle.service_gen.specs.ClearEvent.{mask_register}
use Rattle.service_gen.specs.SetEvent.{with_mask, HasNotSet, HasSet, HasWoken, SetEventEffect}
use Rattle.osek_scheduler.specs.declared.state.TaskState.{TaskState}
use Rattle.osek_scheduler.specs.declared.state.TaskState.TheVariants as mode
use Rattle.osek_scheduler.specs.State.{Task, System, task}
use Rattle.osek_scheduler.specs.Services.{answered_task, is_there, GoesOn, set_events, with_events, woken_state}
use Rattle.osek_scheduler.proofs.ServiceStates.{answered_state}
use Rattle.osek_scheduler.specs.Outcomes.{outcome}
use Rattle.osek_scheduler.specs.Steps.{settled_state}
use Rattle.sim_relation.specs.Build.{Build, HasFittingPlaces}
use Rattle.sim_relation.specs.Changes.{system_with_task_state}
use Rattle.sim_relation.specs.ServiceWords.{IsWaitWord}
use Rattle.sim_relation.specs.Stands.{Stands, AreLineBytes}
use Rattle.sim_relation.proofs.Parts.{by_task}
use Rattle.sim_routines.specs.ServiceSteps.{MayGoOn}
use Rattle.sim_routines.specs.Served.{IsServed, IsServiceAnswer}
use Rattle.sim_routines.proofs.GoesOn.{answers_so, answers_status}
use Rattle.sim_routines.proofs.Raising.{looks, is_so, first_outcome, second_outcome}
use Rattle.sim_routines.specs.EventServiceSteps.{MayHaveEvents}
use Rattle.sim_routines.proofs.Changed.{Changes, among, current, stands_changed}
use Rattle.sim_routines.proofs.TaskAfter.{state_after, after_active, after_awake, after_none, some_line, some_word, woken_is}

module _ (b : Build) (state : State) (s : System) (t : ℕ) (own : Task) (object mask : ℕ) (touched : List ℕ) (end : State) (fits : HasFittingPlaces b)
    (may : MayHaveEvents b state s t own service.SetEvent object mask) (effect : SetEventEffect object touched state end) where
  abbrev goes_on : MayGoOn b state s t own service.SetEvent object
  goes_on = may.goes_on

  abbrev is : IsServed b state s t own service.SetEvent
  is = goes_on.is_served

  abbrev k : Stands b state s
  k = is.stands

  declared : object < length b.config.tasks
  declared = ltb-true object (length b.config.tasks) goes_on.names

  mask_is : slice_index state.core.registers mask_register ≡ mask
  mask_is = is.opening.block.mask (subst (λ v. length (mask_of v is.opening.block.call.mask) ≡ 2) (sym is.opening.calls) refl) ∙ may.mask_is

  touches : AllByRecursion (Contains (object ∷ object ∷ [])) touched
  touches = subst (AllByRecursion (Contains (object ∷ object ∷ []))) (sym effect.touches) ((0, (omega arith), refl), tt)

  names : is_there b.config own.held service.SetEvent is.opening.block.call.object ≡ true
  names = subst (λ o. is_there b.config own.held service.SetEvent o ≡ true) (sym goes_on.object_is) goes_on.names

  abbrev now : ℕ
  now = bit_or (task s object).events mask

  abbrev word : ℕ
  word = with_mask object state.core

  abbrev awaited_word : ℕ
  awaited_word = word_at state.core.ram (wait object)

  wait_word : IsWaitWord (task s object).state awaited_word
  wait_word = (k.words object declared).wait_mask

  word_is : word ≡ now
  word_is = ap (λ x. bit_or x (slice_index state.core.registers mask_register)) (k.words object declared).event_mask ∙ ap (bit_or (task s object).events) mask_is

  small : word < 2 ^ 32
  small =
      or_of_32 (word_at state.core.ram (events object)) (slice_index state.core.registers mask_register) (word_below state.core.ram (events object) is.bytes)
      (subst (λ x. x < 2 ^ 32) (sym mask_is) may.is_word)

  abbrev refused : System
  refused = answered_state E_OS_STATE t s

  abbrev done : System
  done = set_events object mask (answered_state E_OK t s)

  outcome_at : outcome b.config service.SetEvent is.opening.block.call.object is.opening.block.call.mask t s ≡ outcome b.config service.SetEvent object mask t s
  outcome_at =
      ap (λ o. outcome b.config service.SetEvent o is.opening.block.call.mask t s) goes_on.object_is
      ∙ ap (λ m. outcome b.config service.SetEvent object m t s) may.mask_is

  -- the task is Suspended
  not_set : HasNotSet object state end → IsServiceAnswer b s t service.SetEvent touched end
  not_set h =
      answers_status b state s t own service.SetEvent is fits touched end object object touches names goes_on.followed h.back E_OS_STATE h.status
      (outcome_at ∙ first_outcome (task s object).state (GoesOn E_OS_STATE refused) (GoesOn E_OK done) (is_so b state s k object declared h.suspended))

  abbrev after : TaskState
  after = state_after (task s object).state now

  -- it is not; its line is said beside
  module _ (busy : IsFoundSuspended object state.core → ⊥) (status : slice_index end.core.registers a0 ≡ E_OK) (pending enabled : List ℕ)
      (back : BackEffect a0 (record state.core { ram = with_word state.core.ram (events object) word; pending = pending; enabled = enabled }) state end)
      (change : Changes b state s object after now word pending enabled) where
    stood : Stands b end (system_with_task_state (settled_state (answered_state E_OK t s)) object after now)
    stood = stands_changed b state s t own service.SetEvent is fits goes_on.followed end object word pending enabled back E_OK status after now change

    here : t < length s.tasks
    here = among b state s t own service.SetEvent is fits goes_on.followed end object word pending enabled back E_OK status

    same : (v : ℕ) → ((task (answered_state E_OK t s) v).state ≡ (task s v).state) × ((task (answered_state E_OK t s) v).events ≡ (task s v).events)
    same = by_task (λ v x. (x.state ≡ (task s v).state) × (x.events ≡ (task s v).events)) s t (answered_task E_OK (task s t)) here (refl, refl) (λ v n. (refl, refl))

    inside : object < length (answered_state E_OK t s).tasks
    inside = let v = k.tidy.tasks in let h = declared in let l = length-set s.tasks t (answered_task E_OK (task s t)) in omega arith

    next_is : settled_state done ≡ system_with_task_state (answered_state E_OK t s) object after now
    next_is =
        let middle = answered_state E_OK t s in
        ap (λ x. settled_state (woken_state x (bit_or (task middle object).events mask) object (with_events middle object (bit_or (task middle object).events mask)))) (same object).0
        ∙ ap (λ e. settled_state (woken_state (task s object).state (bit_or e mask) object (with_events middle object (bit_or e mask)))) (same object).1
        ∙ woken_is middle object now (task s object).state inside (same object).0

    has_done : IsServiceAnswer b s t service.SetEvent touched end
    has_done =
        answers_so b state s t own service.SetEvent is fits touched end object object touches names E_OK status done
        (outcome_at
        ∙ second_outcome (task s object).state (GoesOn E_OS_STATE refused) (GoesOn E_OK done) (λ e. busy (looks b state s k object declared e)))
        (subst (Stands b end) (sym next_is) stood)
        (current b state s t own service.SetEvent is fits goes_on.followed end object word pending enabled back E_OK status)

  awake : (IsFoundSuspended object state.core → ⊥) → (task s object).state ≢ mode.Suspended
  awake busy e = busy (looks b state s k object declared e)

  only_set : HasSet object state end → IsServiceAnswer b s t service.SetEvent touched end
  only_set h =
      let z : bit_and now awaited_word ≡ 0 = ap (λ x. bit_and x awaited_word) (sym word_is) ∙ h.none_awaited in
      let e = after_none (task s object).state now awaited_word z wait_word in
      has_done h.not_suspended h.status state.core.pending state.core.enabled h.back
      (record {
        declared = declared;
        same_active = after_active (task s object).state now;
        awake = after_awake (task s object).state now (awake h.not_suspended);
        small = small;
        word_is = word_is;
        wait_word = subst (λ m. IsWaitWord m awaited_word) (sym e) wait_word;
        long_pending = refl;
        long_enabled = refl;
        own_line = subst (λ m. AreLineBytes m (slice_index state.core.pending object) (slice_index state.core.enabled object)) (sym e) (k.lines.each object declared);
        own_bit = k.lines.bits object declared;
        other_pending = λ l n. refl;
        other_enabled = λ l n. refl;
      })

  also_woken : HasWoken object state end → IsServiceAnswer b s t service.SetEvent touched end
  also_woken h =
      let f = k.fixed.pending in
      let g = k.fixed.enabled in
      let c = fits.few_tasks in
      let i = declared in
      let z : bit_and now awaited_word ≢ 0 = λ e. h.one_awaited (ap (λ x. bit_and x awaited_word) word_is ∙ e) in
      let pending = slice_set state.core.pending object 1 in
      let enabled = slice_set state.core.enabled object 1 in
      let p : slice_index pending object ≡ 1 = get_or-set_same state.core.pending object 1 0 (omega arith) in
      let q : slice_index enabled object ≡ 1 = get_or-set_same state.core.enabled object 1 0 (omega arith) in
      has_done h.not_suspended h.status pending enabled h.back
      (record {
        declared = declared;
        same_active = after_active (task s object).state now;
        awake = after_awake (task s object).state now (awake h.not_suspended);
        small = small;
        word_is = word_is;
        wait_word = some_word (task s object).state now awaited_word z wait_word;
        long_pending = length-set state.core.pending object 1;
        long_enabled = length-set state.core.enabled object 1;
        own_line = subst (λ (x : ℕ). AreLineBytes after x (slice_index enabled object)) (sym p)
            (subst (λ (x : ℕ). AreLineBytes after 1 x) (sym q)
            (some_line (task s object).state now awaited_word z wait_word (awake h.not_suspended)));
        own_bit = omega arith;
        other_pending = λ l n. get_or-set_other state.core.pending object l 1 0 n;
        other_enabled = λ l n. get_or-set_other state.core.enabled object l 1 0 n;
      })

  pub sets_events : IsServiceAnswer b s t service.SetEvent touched end
  sets_events = ⊎_elim not_set (λ (e : HasSet object state end ⊎ HasWoken object state end). ⊎_elim only_set also_woken e) effect.done
