-- A task that is due stays so until it leaves.
use Rattle.std.proofs.Common.{◌≡◌, ℕ, ◌⊎◌, ◌==◌, ◌||◌, Bool, true, false, is_none, Option, Some, None, refl, sym, ◌∙◌, subst, inl, inr}
use Rattle.std.proofs.lemmas.Bool.{cases_eq, false≢true, true≢false, eq-eqb, ne_eqb}
use Rattle.sloth_base.specs.declared.config.Config.{Config}
use Rattle.sloth_base.specs.declared.app.App.{App}
use Rattle.sloth_base.specs.declared.service.Event.{Event}
use Rattle.sloth_base.specs.declared.service.Service.{Service}
use Rattle.sloth_base.specs.declared.service.Service.TheVariants as service
use Rattle.sloth_base.specs.Named.{counter_declaration}
use Rattle.osek_scheduler.specs.declared.change.TaskChange.{TaskChange}
use Rattle.osek_scheduler.specs.declared.change.TaskChange.TheVariants as change
use Rattle.osek_scheduler.specs.declared.change.Plan.{Plan}
use Rattle.osek_scheduler.specs.declared.state.TaskState.TheVariants as mode
use Rattle.osek_scheduler.specs.State.{Task, System, task, with_task}
use Rattle.osek_scheduler.specs.Priority.{IsDue}
use Rattle.osek_scheduler.specs.Changes.{changed_task, with_change}
use Rattle.osek_scheduler.specs.Services.{counted_on_state, ServiceOutcome, GoesOn, Leaves}
use Rattle.osek_scheduler.proofs.ServiceStates.{IsAfter}
use Rattle.osek_scheduler.specs.Outcomes.{decision, planned_system, shown_outcome}
use Rattle.osek_scheduler.proofs.AllPlans.{all_plans}
use Rattle.osek_scheduler.specs.Steps.{OsekStep, IsServiceStep}
use Rattle.osek_scheduler.proofs.Outcomes.{KeptByOthers, others_keep, outcome_keeps_all, on_outcome, on_tested}
use Rattle.osek_scheduler.proofs.Apart.{at_task}
use Rattle.osek_scheduler.proofs.Steps.{autostarted_at}
use Rattle.run_counts.specs.Rounds.{is_left}
use Rattle.run_counts.proofs.StepCases.{outcome_event, record_behind}
use Rattle.response_laws.proofs.Steps.{alarms_keep}

-- the task is Ready or Active
abbrev Due : Task → Type 0
Due k = (k.state ≡ mode.Ready) ⊎ (k.state ≡ mode.Active)

-- a change that may stop a task that is due is the last of its turn, or of its events
abbrev keeps_due : TaskChange → Bool
keeps_due change.End = false
keeps_due (change.Wait mask) = false
keeps_due (change.AddEvents mask) = false
keeps_due c = true

changed_due : (c : TaskChange) (k : Task) → keeps_due c ≡ true → Due k → Due (changed_task c k)
changed_due change.End k is d = absurd (false≢true is)
changed_due (change.Wait mask) k is d = absurd (false≢true is)
changed_due (change.AddEvents mask) k is d = absurd (false≢true is)
changed_due change.Activate k is d = inl refl
changed_due (change.Start func words non) k is d = inr refl
changed_due (change.Resume non) k is d = inr refl
changed_due c k is d = d

-- a plan with an answer lets its caller go on
abbrev goes_on_due : Plan → Bool
goes_on_due p = is_none p.answer || keeps_due p.change

all_go_on : (config : Config) (served : Service) (object mask caller : ℕ) (s : System) → all_plans goes_on_due (decision config served object mask caller s) ≡ true
all_go_on config service.Schedule object mask caller s = refl
all_go_on config served object mask caller s = refl

module _ (config : Config) (app : App) (h : ℕ) where
  abbrev StaysDue : System → Type 0
  StaysDue x = IsDue x h

  besides : KeptByOthers StaysDue
  besides = record {
    activates = λ x t d. at_task x t h (record (task x t) { state = mode.Ready }) Due d (λ _. inl refl);
    sets = λ x t events d. at_task x t h (record (task x t) { events = events }) Due d (λ e. subst (λ v. IsDue x v) e d);
    stores = λ x symbols d. d;
    sets_alarms = λ x a new d. d;
  }

  -- another task's record is written
  of_other : (s : System) (t : ℕ) (new : Task) → (t == h) ≡ false → IsDue s h → IsDue (with_task s t new) h
  of_other s t new other d = at_task s t h new Due d (λ e. absurd (true≢false (sym (eq-eqb t h (sym e)) ∙ other)))

  answered_other : (t : ℕ) (served : Service) (s : System) (answer : ServiceOutcome) → (t == h) ≡ false → IsServiceStep config app t served s answer → IsDue s h
      → IsAfter StaysDue answer
  answered_other t served s answer other c d =
      subst (IsAfter StaysDue) c.is
      (outcome_keeps_all StaysDue besides t s (λ new. of_other s t new other d) (decision config served c.call.object c.call.mask t s))

  -- where the caller goes on, so it does
  abbrev IfGoesOn : ServiceOutcome → Type 0
  IfGoesOn (GoesOn status after) = IsDue after h
  IfGoesOn (Leaves after) = Unit {0}

  answered_itself : (served : Service) (s : System) (answer : ServiceOutcome) → IsServiceStep config app h served s answer → IsDue s h → IfGoesOn answer
  answered_itself served s answer c d =
      subst IfGoesOn c.is
      (on_outcome IfGoesOn h s (decision config served c.call.object c.call.mask h s)
      (on_tested s (λ p. IfGoesOn (shown_outcome p.answer (planned_system h p s))) goes_on_due (λ p is. planned p p.answer refl is)
      (decision config served c.call.object c.call.mask h s) (all_go_on config served c.call.object c.call.mask h s)))
    where
      planned : (p : Plan) (answer : Option ℕ) → p.answer ≡ answer → (is_none answer || keeps_due p.change) ≡ true
          → IfGoesOn (shown_outcome answer (planned_system h p s))
      planned p None same is = tt
      planned p (Some status) same is =
          others_keep StaysDue besides p.other (with_change h p.change s)
          (at_task s h h (changed_task p.change (task s h)) Due d (λ _. changed_due p.change (task s h) is d))

  answered : (t : ℕ) (served : Service) (s : System) (answer : ServiceOutcome) → IsServiceStep config app t served s answer → is_left h (outcome_event t served answer) ≡ false
      → IsDue s h → IsAfter StaysDue answer
  answered t served s (GoesOn status after) c away d = by (cases_eq t h)
    where
      by : (t ≡ h) ⊎ (t ≡ h → ⊥) → IsDue after h
      by (inl e) = answered_itself served s (GoesOn status after) (subst (λ v. IsServiceStep config app v served s (GoesOn status after)) e c) d
      by (inr n) = answered_other t served s (GoesOn status after) (ne_eqb t h n) c d
  answered t served s (Leaves after) c away d = answered_other t served s (Leaves after) away c d

  pub stays_due : (e : Event) (s next : System) → OsekStep config app e s next → is_left h e ≡ false → IsDue s h → IsDue next h
  stays_due e s next step away d =
      record_behind config app h (λ what. is_left h what ≡ false) Due s
      (record {
        same = d;
        boots = λ _ _. autostarted_at Due config.tasks s.tasks h d (inl refl);
        activates = λ _ _. inl refl;
        enters = λ _. inr refl;
        works = λ new same _. subst (λ m. (m ≡ mode.Ready) ⊎ (m ≡ mode.Active)) (sym same) d;
        serves = λ t served answer c stays. answered t served s answer c stays d;
        ticks = λ c _. alarms_keep StaysDue besides c 0 config.alarms (counted_on_state c (counter_declaration config c).max s) d;
      })
      e next step away
