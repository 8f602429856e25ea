-- GetEvent is a step, and the relation stands behind it.
use Rattle.std.proofs.Common.{◌≡◌, ℕ, ◌<◌, List, [], ◌∷◌, length, refl, sym, ap, ◌∙◌, subst, arith, ⊎_elim, true}
use Rattle.std.specs.Prelude.{Contains}
use Rattle.std.specs.List.{AllByRecursion}
use Rattle.std.proofs.lemmas.Bool.{ltb-true}
use Rattle.sloth_base.specs.Machine.{State}
use Rattle.sloth_base.specs.Status.{E_OK, E_OS_STATE}
use Rattle.sloth_base.specs.declared.service.Service.TheVariants as service
use Rattle.service_gen.specs.GetEvent.{HasNotTold, HasTold, GetEventEffect}
use Rattle.osek_scheduler.specs.State.{Task, System, task}
use Rattle.osek_scheduler.specs.Services.{is_there, GoesOn}
use Rattle.osek_scheduler.proofs.ServiceStates.{answered_state, answered_state_with}
use Rattle.osek_scheduler.specs.Outcomes.{outcome}
use Rattle.sim_relation.specs.Build.{Build, HasFittingPlaces}
use Rattle.sim_relation.specs.Stands.{Stands}
use Rattle.sim_routines.specs.ServiceSteps.{MayGoOn}
use Rattle.sim_routines.specs.Served.{IsServed, IsServiceAnswer}
use Rattle.sim_routines.proofs.Raising.{looks, is_so, first_outcome, second_outcome}
use Rattle.sim_routines.proofs.GoesOn.{answers_status, answers_number}

module _ (b : Build) (state : State) (s : System) (t : ℕ) (own : Task) (object : ℕ) (touched : List ℕ) (end : State) (fits : HasFittingPlaces b)
    (may : MayGoOn b state s t own service.GetEvent object) (effect : GetEventEffect object touched state end) where
  abbrev is : IsServed b state s t own service.GetEvent
  is = may.is_served

  abbrev k : Stands b state s
  k = is.stands

  declared : object < length b.config.tasks
  declared = ltb-true object (length b.config.tasks) may.names

  touches : AllByRecursion (Contains (object ∷ object ∷ [])) touched
  touches = subst (AllByRecursion (Contains (object ∷ object ∷ []))) (sym effect.touches) ((0, (omega arith), refl), tt)

  names : is_there b.config own.held service.GetEvent is.opening.block.call.object ≡ true
  names = subst (λ o. is_there b.config own.held service.GetEvent o ≡ true) (sym may.object_is) may.names

  abbrev refused : System
  refused = answered_state E_OS_STATE t s

  abbrev value : ℕ
  value = (task s object).events

  abbrev told : System
  told = answered_state_with value t s

  outcome_at : outcome b.config service.GetEvent is.opening.block.call.object is.opening.block.call.mask t s ≡ outcome b.config service.GetEvent object is.opening.block.call.mask t s
  outcome_at = ap (λ o. outcome b.config service.GetEvent o is.opening.block.call.mask t s) may.object_is

  not_told : HasNotTold object state end → IsServiceAnswer b s t service.GetEvent touched end
  not_told h =
      let asleep = is_so b state s k object declared h.suspended in
      answers_status b state s t own service.GetEvent is fits touched end object object touches names may.followed h.back E_OS_STATE h.status
      (outcome_at ∙ first_outcome (task s object).state (GoesOn E_OS_STATE refused) (GoesOn E_OK told) asleep)

  has_told : HasTold object state end → IsServiceAnswer b s t service.GetEvent touched end
  has_told h =
      let answer_is = h.answer ∙ (k.words object declared).event_mask in
      answers_number b state s t own service.GetEvent is fits touched end object object touches names may.followed h.back h.status value answer_is
      (outcome_at
      ∙ second_outcome (task s object).state (GoesOn E_OS_STATE refused) (GoesOn E_OK told) (λ e. h.not_suspended (looks b state s k object declared e)))

  pub tells_events : IsServiceAnswer b s t service.GetEvent touched end
  tells_events = ⊎_elim not_told has_told effect.told
