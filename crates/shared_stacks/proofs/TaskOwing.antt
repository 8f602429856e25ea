-- A task owes a `back` only where it reaches a Schedule: each event of a task keeps that.
use Rattle.std.proofs.Common.{◌≡◌, ℕ, List, [], ◌∷◌, Bool, true, false, not, refl, sym, ◌∙◌, subst, is_some}
use Rattle.std.proofs.lemmas.Bool.{false≢true, not-true}
use Rattle.sloth_base.specs.declared.config.Config.{Config}
use Rattle.sloth_base.specs.declared.app.App.{App}
use Rattle.sloth_base.specs.declared.service.Event.{Event}
use Rattle.sloth_base.specs.declared.service.Event.TheVariants as event
use Rattle.sloth_base.specs.declared.service.Service.{Service}
use Rattle.sloth_base.specs.declared.service.Service.TheVariants as service
use Rattle.sloth_base.specs.Named.{declaration}
use Rattle.sloth_base.specs.ServiceCodes.{is_service}
use Rattle.sloth_base.proofs.Services.{same_service}
use Rattle.sloth_base.specs.Events.{named_task}
use Rattle.code_rules.specs.Code.{IsItem, service_op}
use Rattle.stack_bounds.specs.Bounds.{ReachesSchedule}
use Rattle.osek_scheduler.specs.declared.state.TaskState.TheVariants as mode
use Rattle.osek_scheduler.specs.State.{Frame, Task, System, task, with_task}
use Rattle.osek_scheduler.specs.Services.{activated_state, with_events, ServiceOutcome, GoesOn, Leaves, started_task}
use Rattle.osek_scheduler.specs.Changes.{changed_task, with_change}
use Rattle.osek_scheduler.specs.Outcomes.{decision, outcome}
use Rattle.osek_scheduler.proofs.ServiceStates.{IsAfter}
use Rattle.osek_scheduler.proofs.AllPlans.{OnPlans, all_plans}
use Rattle.osek_scheduler.specs.declared.change.TaskChange.{TaskChange}
use Rattle.osek_scheduler.specs.declared.change.TaskChange.TheVariants as change
use Rattle.osek_scheduler.specs.declared.change.Plan.{Plan}
use Rattle.osek_scheduler.proofs.Outcomes.{by_suspended, on_all, on_tested, KeptByOthers, outcome_keeps}
use Rattle.osek_scheduler.specs.Steps.{OsekStep, IsServiceStep, admitted_state}
use Rattle.osek_scheduler.specs.Valid.{IsValid}
use Rattle.shared_stacks.specs.Together.{OwesBySchedule}
use Rattle.osek_scheduler.proofs.Apart.{at_task}
use Rattle.osek_scheduler.proofs.Facts.{Facts}
use Rattle.osek_scheduler.proofs.Going.{running}
use Rattle.osek_scheduler.proofs.Stacks.{task_reaches}

-- Schedule alone makes its caller owe a `back`
abbrev is_pause : TaskChange → Bool
is_pause change.Pause = true
is_pause _ = false

owed_before : (c : TaskChange) (k : Task) → is_pause c ≡ false → (changed_task c k).owed ≡ true → k.owed ≡ true
owed_before change.Pause k e owed = absurd (false≢true (sym e))
owed_before (change.ComeBack non) k e owed = absurd (false≢true owed)
owed_before c k e owed = owed

pauses_alone : (config : Config) (sv : Service) (o m c : ℕ) (s : System) → is_service sv service.Schedule ≡ false
    → all_plans (λ p. not (is_pause p.change)) (decision config sv o m c s) ≡ true
pauses_alone config service.Schedule o m c s e = absurd (false≢true (sym e))
pauses_alone config sv o m c s e = refl

module _ (app : App) where
  abbrev Owes : System → Type 0
  Owes = OwesBySchedule app

  -- one task's record changes
  one : (s : System) (t : ℕ) (new : Task) → Owes s → (new.owed ≡ true → ReachesSchedule app t) → Owes (with_task s t new)
  one s t new each h u =
      at_task s t u new (λ k. k.owed ≡ true → ReachesSchedule app u) (each u)
      (λ e. subst (λ x. new.owed ≡ true → ReachesSchedule app x) (sym e) h)

  readied : (s : System) (t : ℕ) → Owes s → Owes (activated_state s t)
  readied s t each = one s t (record (task s t) { state = mode.Ready }) each (each t)

  eventful : (s : System) (t events : ℕ) → Owes s → Owes (with_events s t events)
  eventful s t events each = one s t (record (task s t) { events = events }) each (each t)

  pub owes_besides : KeptByOthers Owes
  owes_besides = record { activates = readied; sets = eventful; stores = λ s symbols each. each; sets_alarms = λ s a new each. each }

  -- ---- services

  module _ (config : Config) (s : System) (c : ℕ) (each : Owes s) where
    -- a change of the caller with which it owes no more than before
    own : (p : Plan) → not (is_pause p.change) ≡ true → Owes (with_change c p.change s)
    own p h = one s c (changed_task p.change (task s c)) each (λ owed. each c (owed_before p.change (task s c) (not-true _ h) owed))

    outcome_owes : (sv : Service) (o m : ℕ) → (sv ≡ service.Schedule → ReachesSchedule app c) → IsAfter Owes (outcome config sv o m c s)
    outcome_owes sv o m reaches = outcome_keeps Owes owes_besides c s (decision config sv o m c s) (by (is_service sv service.Schedule) refl)
      where
        by : (b : Bool) → is_service sv service.Schedule ≡ b → OnPlans s (λ p. Owes (with_change c p.change s)) (decision config sv o m c s)
        by true e =
            on_all s (λ p. Owes (with_change c p.change s))
            (λ p. one s c (changed_task p.change (task s c)) each (λ _. reaches (same_service sv service.Schedule e))) (decision config sv o m c s)
        by false e =
            on_tested s (λ p. Owes (with_change c p.change s)) (λ p. not (is_pause p.change)) own (decision config sv o m c s) (pauses_alone config sv o m c s e)

  -- ---- the events of a task

  starts_owes : (t : ℕ) (frames : List Frame) (old : Task) → (started_task app t frames old).owed ≡ old.owed
  starts_owes t [] old = refl
  starts_owes t (frame ∷ outer) old = refl

  module _ (config : Config) (w : Facts config app) where
    serves_owes : (t : ℕ) (served : Service) (s : System) (answer : ServiceOutcome) → IsServiceStep config app t served s answer → IsValid config app s → Owes s → IsAfter Owes answer
    serves_owes t served s answer h v each = subst (IsAfter Owes) h.is (outcome_owes config s t each served h.call.object h.call.mask reaches)
      where
        reaches : served ≡ service.Schedule → ReachesSchedule app t
        reaches e =
            let r = running config app s t _ v h.top.declared h.at in
            let f = h.at.frame.func in
            let is : h.call.service ≡ service.Schedule = h.same ∙ e in (
              f,
              h.at.frame.item,
              h.call.object,
              h.call.mask,
              task_reaches config app w t f h.at.outer h.top.declared r.called,
              subst (λ (x : Service). IsItem app f h.at.frame.item (service_op x h.call.object h.call.mask)) is r.item,
            )

    admit_owes : (s : System) (t : ℕ) → Owes s → Owes (admitted_state t s)
    admit_owes s t each =
        by_suspended (task s t).state (record (activated_state s t) { fresh = t ∷ s.fresh }) s Owes (λ _. readied s t each) (λ _. each)

    pub task_owes : (e : Event) (s next : System) → OsekStep config app e s next → is_some (named_task e) ≡ true → IsValid config app s → Owes s → Owes next
    task_owes (event.Admit t) s next h named v each = subst Owes (sym h.2) (admit_owes s t each)
    task_owes (event.Enter t) s next h named v each =
        subst Owes (sym h.4)
        (one s t (record (started_task app t (task s t).frames (task s t)) { state = mode.Active; raised = (declaration config t).non }) each
        (λ e. each t (sym (starts_owes t (task s t).frames (task s t)) ∙ e)))
    task_owes (event.Run t func item result) s next h named v each =
        subst Owes (sym h.1.is) (one s t (record (task s t) { registers = h.1.meant.registers; frames = h.1.meant.frames }) each (each t))
    task_owes (event.Call t served status) s next h named v each = subst Owes (sym h.1.2) (serves_owes t served s (GoesOn status h.1.0) h.1.1 v each)
    task_owes (event.Left t served) s next h named v each = subst Owes (sym h.1.2) (serves_owes t served s (Leaves h.1.0) h.1.1 v each)
    task_owes (event.Back t) s next h named v each =
        subst Owes (sym h.4) (one s t (record (task s t) { owed = false; raised = (declaration config t).non }) each (λ e. absurd (false≢true e)))
    task_owes e s next h named v each = absurd (false≢true named)
