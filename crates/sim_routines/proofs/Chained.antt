-- ChainTask is a step, and the relation stands behind it.
use Rattle.std.proofs.Common.{◌≡◌, ℕ, ◌+◌, ◌<◌, ◌≤◌, List, [], ◌∷◌, Bool, length, refl, sym, ap, ◌∙◌, subst, arith, ⊎_elim, true, false, cond}
use Rattle.std.specs.Prelude.{◌≢◌, ◌==◌, Contains}
use Rattle.std.specs.List.{AllByRecursion}
use Rattle.std.proofs.lemmas.Bool.{ltb-true, eq-eqb, ne_eqb}
use Rattle.sloth_base.specs.Arrive.{state_arrive}
use Rattle.sloth_base.specs.Status.{E_OS_LIMIT}
use Rattle.sloth_base.specs.declared.service.Service.TheVariants as service
use Rattle.sloth_base.specs.Machine.{State}
use Rattle.sloth_base.specs.MemoryMap.{line_count}
use Rattle.sloth_region.specs.Layout.{cur}
use Rattle.rv32_instr.specs.Ram.{word_at}
use Rattle.block_parts.specs.SuspensionTest.{IsFoundSuspended}
use Rattle.service_gen.specs.ChainTask.{HasChained, HasNotChained, ChainTaskEffect}
use Rattle.osek_scheduler.specs.declared.state.TaskState.TheVariants as mode
use Rattle.osek_scheduler.specs.State.{Task, System, task, zero_registers}
use Rattle.osek_scheduler.specs.Services.{if_suspended, activated_state, is_there, ServiceOutcome, GoesOn, Leaves}
use Rattle.osek_scheduler.proofs.ServiceStates.{answered_state, ended_state}
use Rattle.osek_scheduler.specs.Outcomes.{outcome}
use Rattle.osek_scheduler.specs.Steps.{settled_state}
use Rattle.sim_relation.specs.Build.{Build, HasFittingPlaces}
use Rattle.sim_relation.specs.Progress.{HasPassed}
use Rattle.sim_relation.specs.Stands.{Stands}
use Rattle.sim_relation.proofs.Parts.{other_task}
use Rattle.sim_routines.specs.Served.{IsServed, IsServiceAnswer}
use Rattle.sim_routines.specs.ServiceSteps.{MayEnd, MayChainTo}
use Rattle.sim_routines.proofs.Ending.{ended_stands, ended_passed, ended_own, elsewhere}
use Rattle.sim_routines.proofs.GoesOn.{active, answers_status, leaves_so}
use Rattle.sim_routines.proofs.Raising.{looks, is_so, readied, readied_passed, first_outcome, second_outcome}

module _ (b : Build) (state : State) (s : System) (t : ℕ) (own : Task) (object place : ℕ) (touched : List ℕ) (end : State) (fits : HasFittingPlaces b)
    (may : MayChainTo b state s t own object place) where
  abbrev is : IsServed b state s t own service.ChainTask
  is = may.goes_on.is_served

  abbrev k : Stands b state s
  k = is.stands

  declared : object < length b.config.tasks
  declared = ltb-true object (length b.config.tasks) may.goes_on.names

  few : length b.config.tasks ≤ line_count
  few = let f = fits.few_tasks in omega arith

  names : is_there b.config own.held service.ChainTask is.opening.block.call.object ≡ true
  names = subst (λ o. is_there b.config own.held service.ChainTask o ≡ true) (sym may.goes_on.object_is) may.goes_on.names

  -- ---- what the abstract scheduler answers

  abbrev other_first : ServiceOutcome
  other_first = Leaves (activated_state (ended_state t s) object)

  abbrev other_second : ServiceOutcome
  other_second = GoesOn E_OS_LIMIT (answered_state E_OS_LIMIT t s)

  outcome_is : outcome b.config service.ChainTask is.opening.block.call.object is.opening.block.call.mask t s
      ≡ cond (object == t) (Leaves (activated_state (ended_state t s) t)) (if_suspended (task s object).state other_first other_second)
  outcome_is = ap (λ o. outcome b.config service.ChainTask o is.opening.block.call.mask t s) may.goes_on.object_is

  of_itself : object ≡ t → outcome b.config service.ChainTask is.opening.block.call.object is.opening.block.call.mask t s ≡ Leaves (activated_state (ended_state t s) t)
  of_itself e =
      outcome_is
      ∙ ap (λ (x : Bool). cond x (Leaves (activated_state (ended_state t s) t)) (if_suspended (task s object).state other_first other_second)) (eq-eqb object t e)

  of_other : object ≢ t → outcome b.config service.ChainTask is.opening.block.call.object is.opening.block.call.mask t s ≡ if_suspended (task s object).state other_first other_second
  of_other n =
      outcome_is
      ∙ ap (λ (x : Bool). cond x (Leaves (activated_state (ended_state t s) t)) (if_suspended (task s object).state other_first other_second)) (ne_eqb object t n)

  -- ---- the caller ends

  abbrev may_end : MayEnd b state s t own service.ChainTask place
  may_end = record { is_served = is; holds_nothing = may.holds_nothing; below = may.below }

  module _ (h : HasChained object t place touched state end) where
    abbrev middle : State
    middle = h.middle

    abbrev after : System
    after = settled_state (ended_state t s)

    over : Stands b middle after
    over = ended_stands b state s t own service.ChainTask place (t ∷ []) middle fits may_end h.ended

    passed : HasPassed b middle after
    passed = ended_passed b state s t own service.ChainTask place (t ∷ []) middle fits may_end h.ended

    gone : word_at end.core.ram cur ≡ t + 1 → ⊥
    gone now = elsewhere b state s t own service.ChainTask place (t ∷ []) middle fits may_end h.ended (ap (λ (x : State). word_at x.core.ram cur) (sym h.raised) ∙ now)

    own_asleep : (task after t).state ≡ mode.Suspended
    own_asleep = ap (λ (x : Task). x.state) (ended_own b state s t own service.ChainTask place (t ∷ []) middle fits may_end h.ended)

    -- this task is raised
    module _ (u : ℕ) (in_range : u < length b.config.tasks) (asleep : (task after u).state ≡ mode.Suspended) (raised : end ≡ state_arrive (u ∷ []) middle)
        (touches : AllByRecursion (Contains (u ∷ t ∷ [])) touched)
        (answer_is : outcome b.config service.ChainTask is.opening.block.call.object is.opening.block.call.mask t s ≡ Leaves (activated_state (ended_state t s) u)) where
      ends_so : IsServiceAnswer b s t service.ChainTask touched end
      ends_so =
          leaves_so b state s t own service.ChainTask is fits touched end u t touches names (activated_state (ended_state t s) u) answer_is
          (subst (λ x. Stands b x (settled_state (activated_state (ended_state t s) u))) (sym raised) (readied b middle after over u in_range few asleep))
          (subst (λ x. HasPassed b x (settled_state (activated_state (ended_state t s) u))) (sym raised) (readied_passed b middle after over u in_range few asleep passed)) gone

    -- the caller ends, and the chained task is activated
    pub chains : IsServiceAnswer b s t service.ChainTask touched end
    chains =
        ⊎_elim
        (λ (m : (object ≡ t) × (touched ≡ t ∷ [])).
        ends_so t (active b state s t own service.ChainTask is fits).declared own_asleep (h.raised ∙ ap (λ u. state_arrive (u ∷ []) middle) m.0)
        (subst (AllByRecursion (Contains (t ∷ t ∷ []))) (sym m.1) ((0, (omega arith), refl), tt)) (of_itself m.0))
        (λ (m : (object ≢ t) × IsFoundSuspended object state.core × (touched ≡ object ∷ t ∷ [])).
        let new : Task = record (task s t) { state = mode.Suspended; registers = zero_registers; frames = []; events = 0; raised = false } in
        let asleep = is_so b state s k object declared m.1 in
        ends_so object declared (ap (λ (x : Task). x.state) (other_task s t object new m.0) ∙ asleep) h.raised
        (subst (AllByRecursion (Contains (object ∷ t ∷ []))) (sym m.2) ((0, (omega arith), refl), ((1, (omega arith), refl), tt)))
        (of_other m.0 ∙ first_outcome (task s object).state other_first other_second asleep))
        h.may

  -- ---- the caller goes on

  -- the chained task is not Suspended: the status alone
  pub refuses : HasNotChained object t touched state end → IsServiceAnswer b s t service.ChainTask touched end
  refuses h =
      answers_status b state s t own service.ChainTask is fits touched end object object
      (subst (AllByRecursion (Contains (object ∷ object ∷ []))) (sym h.touches) ((0, (omega arith), refl), tt))
      names may.goes_on.followed h.back E_OS_LIMIT h.status
      (of_other h.other ∙ second_outcome (task s object).state other_first other_second (λ e. h.not_suspended (looks b state s k object declared e)))

-- whichever of the two it is
pub chain_answers : (b : Build) (state : State) (s : System) (t : ℕ) (own : Task) (object place : ℕ) (touched : List ℕ) (end : State) → HasFittingPlaces b
    → MayChainTo b state s t own object place → ChainTaskEffect object t place touched state end → IsServiceAnswer b s t service.ChainTask touched end
chain_answers b state s t own object place touched end fits may effect =
    ⊎_elim
    (λ (h : HasChained object t place touched state end). chains b state s t own object place touched end fits may h)
    (λ (h : HasNotChained object t touched state end). refuses b state s t own object place touched end fits may h)
    effect
