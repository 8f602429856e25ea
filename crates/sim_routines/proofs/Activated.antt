-- ActivateTask is a step, and the relation stands behind it.
use Rattle.std.proofs.Common.{◌≡◌, ℕ, ◌<◌, ◌≤◌, List, [], ◌∷◌, length, refl, sym, ap, ◌∙◌, subst, arith, ⊎_elim, true}
use Rattle.std.specs.Prelude.{slice_index, slice_set, Contains}
use Rattle.std.specs.List.{AllByRecursion}
use Rattle.std.proofs.lemmas.Bool.{ltb-true}
use Rattle.sloth_base.specs.Arrive.{state_arrive}
use Rattle.sloth_base.specs.Status.{E_OK, E_OS_LIMIT}
use Rattle.sloth_base.specs.declared.service.Service.TheVariants as service
use Rattle.sloth_base.specs.Machine.{State}
use Rattle.sloth_base.specs.MemoryMap.{line_count}
use Rattle.sloth_region.specs.Layout.{cur}
use Rattle.rv32_instr.specs.Ram.{word_at}
use Rattle.service_gen.specs.ActivateTask.{ActivateTaskEffect}
use Rattle.block_parts.specs.SuspensionTest.{IsFoundSuspended}
use Rattle.block_parts.specs.Back.{a0}
use Rattle.osek_scheduler.specs.declared.state.TaskState.TheVariants as mode
use Rattle.osek_scheduler.specs.State.{Task, System, task}
use Rattle.osek_scheduler.specs.Services.{activated_state, answered_task, is_there, GoesOn}
use Rattle.osek_scheduler.proofs.ServiceStates.{answered_state}
use Rattle.osek_scheduler.specs.Outcomes.{outcome}
use Rattle.osek_scheduler.specs.Steps.{settled_state}
use Rattle.sim_relation.specs.Build.{Build, HasFittingPlaces}
use Rattle.sim_relation.specs.Stands.{Stands}
use Rattle.sim_relation.proofs.Parts.{by_task}
use Rattle.sim_routines.specs.Served.{IsServed, IsServiceAnswer}
use Rattle.sim_routines.specs.ServiceSteps.{MayGoOn}
use Rattle.sim_routines.proofs.GoesOn.{active, answers_so, behind_as_before}
use Rattle.sim_routines.proofs.Raising.{looks, is_so, readied, stayed, first_outcome, second_outcome}

module _ (b : Build) (state : State) (s : System) (t : ℕ) (own : Task) (object : ℕ) (touched : List ℕ) (end : State) (fits : HasFittingPlaces b)
    (may : MayGoOn b state s t own service.ActivateTask object) (effect : ActivateTaskEffect object touched state end) where
  abbrev is : IsServed b state s t own service.ActivateTask
  is = may.is_served

  abbrev k : Stands b state s
  k = is.stands

  declared : object < length b.config.tasks
  declared = ltb-true object (length b.config.tasks) may.names

  few : length b.config.tasks ≤ line_count
  few = let f = fits.few_tasks in omega arith

  -- the end, before the line is raised
  abbrev middle : State
  middle = record { pc = end.pc; core = record end.core { pending = state.core.pending } }

  end_is : end ≡ state_arrive (object ∷ []) middle
  end_is = ap (λ p. record { pc = end.pc; core = record end.core { pending = p } }) effect.back.left.pending

  -- the caller has its status, and the line is not raised yet
  module _ (status : ℕ) (status_is : slice_index end.core.registers a0 ≡ status) where
    abbrev after : System
    after = settled_state (answered_state status t s)

    before : Stands b middle after
    before =
        let l = effect.back.left in
        behind_as_before b state s t own service.ActivateTask is fits may.followed end state.core.ram (slice_set state.core.pending object 1) state.core.enabled
        end.core.ram state.core.pending end.core.enabled effect.back l.ram refl l.enabled status status_is

    among : t < length s.tasks
    among = let v = k.tidy.tasks in let h = (active b state s t own service.ActivateTask is fits).declared in omega arith

    same_state : (task after object).state ≡ (task s object).state
    same_state = by_task (λ u (v : Task). v.state ≡ (task s u).state) s t (answered_task status (task s t)) among refl (λ u n. refl) object

    module _ (next : System) (answer_is : outcome b.config service.ActivateTask is.opening.block.call.object is.opening.block.call.mask t s ≡ GoesOn status next)
        (stands : Stands b (state_arrive (object ∷ []) middle) (settled_state next)) where
      answer : IsServiceAnswer b s t service.ActivateTask touched end
      answer =
          answers_so b state s t own service.ActivateTask is fits touched end object object
          (subst (AllByRecursion (Contains (object ∷ object ∷ []))) (sym effect.touches) ((0, (omega arith), refl), tt))
          (subst (λ o. is_there b.config own.held service.ActivateTask o ≡ true) (sym may.object_is) may.names)
          status status_is next answer_is
          (subst (λ x. Stands b x (settled_state next)) (sym end_is) stands)
          (ap (λ r. word_at r cur) effect.back.left.ram)

  abbrev call : ℕ
  call = is.opening.block.call.object

  outcome_at : (mask : ℕ) → outcome b.config service.ActivateTask call mask t s ≡ outcome b.config service.ActivateTask object mask t s
  outcome_at mask = ap (λ o. outcome b.config service.ActivateTask o mask t s) may.object_is

  pub activates : IsServiceAnswer b s t service.ActivateTask touched end
  activates =
      ⊎_elim
      (λ (h : IsFoundSuspended object state.core × (slice_index end.core.registers a0 ≡ E_OK)).
      let asleep = is_so b state s k object declared h.0 in
      answer E_OK h.1 (activated_state (answered_state E_OK t s) object)
      (outcome_at is.opening.block.call.mask
      ∙ first_outcome (task s object).state (GoesOn E_OK (activated_state (answered_state E_OK t s) object)) (GoesOn E_OS_LIMIT (answered_state E_OS_LIMIT t s)) asleep)
      (readied b middle (after E_OK h.1) (before E_OK h.1) object declared few (same_state E_OK h.1 ∙ asleep)))
      (λ (h : (IsFoundSuspended object state.core → ⊥) × (slice_index end.core.registers a0 ≡ E_OS_LIMIT)).
      let awake : (task s object).state ≡ mode.Suspended → ⊥ = λ e. h.0 (looks b state s k object declared e) in
      answer E_OS_LIMIT h.1 (answered_state E_OS_LIMIT t s)
      (outcome_at is.opening.block.call.mask
      ∙ second_outcome (task s object).state (GoesOn E_OK (activated_state (answered_state E_OK t s) object)) (GoesOn E_OS_LIMIT (answered_state E_OS_LIMIT t s)) awake)
      (stayed b middle (after E_OS_LIMIT h.1) (before E_OS_LIMIT h.1) object declared few (λ e. awake (sym (same_state E_OS_LIMIT h.1) ∙ e))))
      effect.status
