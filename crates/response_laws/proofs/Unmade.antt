-- A task that nothing but arrivals and alarms makes Ready stays Suspended up to its next admission or the expiry of an alarm, and is Suspended where it has left.
use Rattle.std.proofs.Common.{◌≡◌, ℕ, zero, suc, ◌+◌, ◌-◌, ◌<◌, ◌⊎◌, ◌==◌, ◌&&◌, ◌||◌, not, cond, length, List, [], ◌∷◌, Bool, true, false, get_or, refl, sym, ap, ◌∙◌, subst, arith, inl, inr, is_some, Option, Some, None}
use Rattle.std.specs.List.{list_any}
use Rattle.std.proofs.lemmas.Bool.{cond_both, false≢true, true≢false, and_parts, or_parts, eqb-true, eqb-false, not-true}
use Rattle.std.proofs.lemmas.List.{get_or-set_same}
use Rattle.sloth_base.specs.declared.config.AlarmDecl.{AlarmDecl}
use Rattle.sloth_base.specs.declared.config.Config.{Config}
use Rattle.sloth_base.specs.declared.app.App.{App}
use Rattle.sloth_base.specs.declared.service.Event.{Event}
use Rattle.sloth_base.specs.declared.service.Event.TheVariants as event
use Rattle.sloth_base.specs.declared.service.Service.{Service}
use Rattle.sloth_base.specs.declared.service.Service.TheVariants as service
use Rattle.sloth_base.specs.Named.{declaration, undeclared_alarm, function, no_function, no_item, operation}
use Rattle.sloth_base.specs.ServiceCodes.{is_service}
use Rattle.osek_scheduler.specs.declared.change.TaskChange.{TaskChange}
use Rattle.osek_scheduler.specs.declared.change.TaskChange.TheVariants as change
use Rattle.osek_scheduler.specs.declared.change.Other.{Other}
use Rattle.osek_scheduler.specs.declared.change.Other.TheVariants as other
use Rattle.osek_scheduler.specs.declared.change.Plan.{Plan}
use Rattle.osek_scheduler.specs.declared.state.Alarm.{Alarm}
use Rattle.osek_scheduler.specs.declared.state.TaskState.TheVariants as mode
use Rattle.osek_scheduler.specs.State.{Task, System, sleeping_task, task, alarm}
use Rattle.osek_scheduler.specs.Priority.{NoTicks}
use Rattle.osek_scheduler.specs.Changes.{changed_task, with_change}
use Rattle.osek_scheduler.specs.Services.{activated_state, with_left, acted_state, alarm_ticked_state, alarms_ticked_state, ticked_state, ServiceOutcome, GoesOn, Leaves}
use Rattle.osek_scheduler.specs.Outcomes.{plan, decision, outcome, with_other, planned_system, shown_outcome}
use Rattle.osek_scheduler.specs.Steps.{OsekStep, IsServiceStep}
use Rattle.osek_scheduler.specs.Valid.{InState, IsValid}
use Rattle.osek_scheduler.proofs.AllPlans.{all_plans}
use Rattle.osek_scheduler.proofs.Apart.{at_task}
use Rattle.osek_scheduler.proofs.Outcomes.{by_suspended, on_outcome, on_tested}
use Rattle.osek_scheduler.proofs.ServiceStates.{IsAfter}
use Rattle.run_counts.specs.Rounds.{is_left}
use Rattle.run_counts.proofs.StepCases.{record_behind}
use Rattle.response_laws.specs.Ticks.{activates}
use Rattle.response_laws.specs.Made.{calls_either, is_call_for, has_call, are_called, is_making, is_plain, is_made_from_outside}
use Rattle.response_laws.proofs.AlarmSteps.{one_other}
use Rattle.response_laws.proofs.Ticks.{alarm_kept}
use Rattle.response_laws.proofs.Suspended.{IsSuspended, awake, not_started, served_asleep, acted_asleep, active_other}

-- a test that no element passes fails at each
none_at : {X : Type 0} (test : X → Bool) (xs : List X) (i : ℕ) (outside : X) → list_any test xs ≡ false → test outside ≡ false → test (get_or xs i outside) ≡ false
none_at test [] i outside none off = off
none_at test (x ∷ xs) zero outside none off = (or_parts (test x) (list_any test xs) none).0
none_at test (x ∷ xs) (suc i) outside none off = none_at test xs i outside (or_parts (test x) (list_any test xs) none).1 off

-- what no body calls, no item does
pub uncalled : (app : App) (one other : Service) (object : ℕ) → are_called one other object app.funcs ≡ false → (f i : ℕ)
    → calls_either one other object (operation app f i) ≡ false
uncalled app one other object none f i =
    none_at (is_call_for one other object) (function app f).items i no_item (none_at (has_call one other object) app.funcs f no_function none refl) refl

-- ---- the alarms of a tick

module _ (config : Config) (t c : ℕ) where
  -- one of these alarms, of which the first has this number, is of counter c, activates the task, and expires with the next tick
  abbrev pub ExpiresOne : (first : ℕ) → List AlarmDecl → System → Type 0
  ExpiresOne first ds x =
      (i : ℕ) × (i < length ds) × ((get_or ds i undeclared_alarm).counter ≡ c) × (activates t (get_or ds i undeclared_alarm).action ≡ true)
      × ((alarm x (first + i)).left ≡ 1)

  -- where none does, a Suspended task stays so
  pub woken : (first : ℕ) (ds : List AlarmDecl) (x : System) → IsSuspended (task x t)
      → IsSuspended (task (alarms_ticked_state c first ds x) t) ⊎ ExpiresOne first ds x
  woken first [] x asleep = inl asleep
  woken first (d ∷ ds) x asleep =
      by (λ still. further (woken (first + 1) ds ticked still)) (d.counter == c) refl (activates t d.action) refl ((alarm x first).left == 1) refl
    where
      Asleep : System → Type 0
      Asleep y = IsSuspended (task y t)

      ticked : System
      ticked = cond (d.counter == c) (alarm_ticked_state d.action first x) x

      Result : Type 0
      Result = Asleep (alarms_ticked_state c (first + 1) ds ticked) ⊎ ExpiresOne first (d ∷ ds) x

      further : Asleep (alarms_ticked_state c (first + 1) ds ticked) ⊎ ExpiresOne (first + 1) ds ticked → Result
      further (inl still) = inl still
      further (inr (i, lt, mine, makes, one)) =
          let at : first + 1 + i ≡ first + suc i = omega arith in
          let same = ap (λ (k : Alarm). k.left) (one_other (first + 1 + i) c first d x (λ e. omega (arith, e))) in
          inr (suc i, (omega (arith, lt)), mine, makes, subst (λ n. (alarm x n).left ≡ 1) at (sym same ∙ one))

      by : (Asleep ticked → Result) → (m : Bool) → (d.counter == c) ≡ m → (a : Bool) → activates t d.action ≡ a → (o : Bool)
          → ((alarm x first).left == 1) ≡ o → Result
      by on true mine true makes true one =
          let at : first ≡ first + 0 = omega arith in
          inr (0, (omega arith), eqb-true d.counter c mine, makes, subst (λ n. (alarm x n).left ≡ 1) at (eqb-true (alarm x first).left 1 one))
      by on false mine true makes true one = on (subst (λ b. Asleep (cond b (alarm_ticked_state d.action first x) x)) (sym mine) asleep)
      by on m mine true makes false off =
          on (cond_both (d.counter == c) (alarm_ticked_state d.action first x) x Asleep
          (λ _. subst (λ b. Asleep (cond b (acted_state d.action (with_left first (alarm x first).cycle x)) (with_left first ((alarm x first).left - 1) x))) (sym off) asleep)
          (λ _. asleep))
      by on m mine false out o one =
          on (cond_both (d.counter == c) (alarm_ticked_state d.action first x) x Asleep
          (λ _. alarm_kept t IsSuspended (activates t) (acted_asleep config t) d.action first x out asleep) (λ _. asleep))

-- ---- the task

module _ (config : Config) (app : App) (t : ℕ) (is : is_made_from_outside config app t ≡ true) where
  abbrev pub Asleep : System → Type 0
  Asleep s = IsSuspended (task s t)

  -- ---- what its declaration and the task code say

  parts : (is_plain (declaration config t) ≡ true) × (not (are_called service.ActivateTask service.ChainTask t app.funcs) ≡ true)
  parts = and_parts (is_plain (declaration config t)) (not (are_called service.ActivateTask service.ChainTask t app.funcs)) is

  plain : (not (declaration config t).extended ≡ true) × (not (declaration config t).autostart ≡ true)
  plain = and_parts (not (declaration config t).extended) (not (declaration config t).autostart) parts.0

  basic : (declaration config t).extended ≡ false
  basic = not-true (declaration config t).extended plain.0

  unstarted : (declaration config t).autostart ≡ false
  unstarted = not-true (declaration config t).autostart plain.1

  -- no item activates it, or chains it
  unnamed : (f i : ℕ) → is_making t (operation app f i) ≡ false
  unnamed = uncalled app service.ActivateTask service.ChainTask t (not-true (are_called service.ActivateTask service.ChainTask t app.funcs) parts.1)

  -- the call of a task names it in neither way
  unnamed_call : (u : ℕ) (served : Service) (s : System) (answer : ServiceOutcome) (h : IsServiceStep config app u served s answer)
      → ((is_service served service.ActivateTask || is_service served service.ChainTask) && (h.call.object == t)) ≡ false
  unnamed_call u served s answer h =
      ap (λ v. (is_service v service.ActivateTask || is_service v service.ChainTask) && (h.call.object == t)) (sym h.same)
      ∙ sym (ap (is_making t) h.at.next) ∙ unnamed h.at.frame.func h.at.frame.item

  called_asleep : (u : ℕ) (served : Service) (s : System) (answer : ServiceOutcome) → IsServiceStep config app u served s answer → (u ≡ t → ⊥) → Asleep s
      → IsAfter Asleep answer
  called_asleep u served s answer h away asleep =
      subst (IsAfter Asleep) h.is (served_asleep config t u away s asleep served h.call.object h.call.mask (unnamed_call u served s answer h))

  -- ---- up to its next admission it stays Suspended, or a tick

  module _ (s : System) (asleep : Asleep s) where
    -- where no counter is due
    calm : (e : Event) (next : System) → OsekStep config app e s next → (e ≡ event.Admit t → ⊥) → NoTicks config s → Asleep next
    calm e next step other none =
        record_behind config app t (λ what. what ≡ event.Admit t → ⊥) IsSuspended s
        (record {
          same = asleep;
          boots = λ _ _. not_started config.tasks s.tasks t unstarted asleep;
          activates = λ _ away. absurd (away refl);
          enters = λ ready. absurd (awake (task s t).state ready asleep);
          works = λ new same _. same ∙ asleep;
          serves = λ u served answer h _. called_asleep u served s answer h (active_other config t u s h.at.active asleep) asleep;
          ticks = λ c due. absurd (false≢true (sym (none c due.declared) ∙ due.due));
        })
        e next step other

    pub stays_asleep : (e : Event) (next : System) → OsekStep config app e s next → (e ≡ event.Admit t → ⊥)
        → ((c : ℕ) → e ≡ event.Tick c → Asleep (ticked_state config c s)) → Asleep next
    stays_asleep event.Boot next h other ticks = subst Asleep (sym h.1) (not_started config.tasks s.tasks t unstarted asleep)
    stays_asleep (event.Admit u) next h other ticks =
        subst Asleep (sym h.2)
        (by_suspended (task s u).state (record (activated_state s u) { fresh = u ∷ s.fresh }) s Asleep
        (λ _. at_task s u t (record (task s u) { state = mode.Ready }) IsSuspended asleep (λ e. absurd (other (ap (λ v. event.Admit v) (sym e))))) (λ _. asleep))
    stays_asleep (event.Enter u) next h other ticks = calm (event.Enter u) next h other h.1.no_ticks
    stays_asleep (event.Run u func item result) next h other ticks = calm (event.Run u func item result) next h other h.1.top.no_ticks
    stays_asleep (event.Call u served status) next h other ticks = calm (event.Call u served status) next h other h.1.1.top.no_ticks
    stays_asleep (event.Left u served) next h other ticks = calm (event.Left u served) next h other h.1.1.top.no_ticks
    stays_asleep (event.Back u) next h other ticks = calm (event.Back u) next h other h.1.no_ticks
    stays_asleep event.Idle next h other ticks = calm event.Idle next h other h.2
    stays_asleep event.Stray next h other ticks = absurd h
    stays_asleep (event.Due d) next h other ticks = subst Asleep (sym h.2) asleep
    stays_asleep (event.Tick d) next h other ticks = subst Asleep (sym h.2) (ticks d refl)

  -- ---- where it has left it is Suspended

  -- the task ended or waits
  abbrev pub IsOff : Task → Type 0
  IsOff k = IsSuspended k ⊎ ((mask : ℕ) × (k.state ≡ mode.Waiting mask))

  -- a change with which a task leaves
  abbrev is_last : TaskChange → Bool
  is_last change.End = true
  is_last (change.Wait mask) = true
  is_last d = false

  ends_off : (d : TaskChange) (k : Task) → is_last d ≡ true → IsOff (changed_task d k)
  ends_off change.End k last = inl refl
  ends_off (change.Wait mask) k last = inr (mask, refl)
  ends_off d k last = absurd (false≢true last)

  -- besides nothing is done, or another activated
  abbrev activates_other : Other → Bool
  activates_other other.Nothing = true
  activates_other (other.Activate u) = not (u == t)
  activates_other o = false

  off_besides : (o : Other) (x : System) → activates_other o ≡ true → IsOff (task x t) → IsOff (task (with_other o x) t)
  off_besides other.Nothing x out off = off
  off_besides (other.Activate u) x out off =
      at_task x u t (record (task x u) { state = mode.Ready }) IsOff off (λ e. absurd (eqb-false u t (not-true (u == t) out) (sym e)))
  off_besides o x out off = absurd (false≢true out)

  abbrev ends_or_answers : Plan → Bool
  ends_or_answers p = is_some p.answer || (is_last p.change && activates_other p.other)

  abbrev OffWhereLeaving : ServiceOutcome → Type 0
  OffWhereLeaving (GoesOn status x) = Unit {0}
  OffWhereLeaving (Leaves x) = IsOff (task x t)

  module _ (s : System) (inside : t < length s.tasks) where
    ended : (p : Plan) → ends_or_answers p ≡ true → OffWhereLeaving (shown_outcome p.answer (planned_system t p s))
    ended p = by p.answer
      where
        by : (answer : Option ℕ) → (is_some answer || (is_last p.change && activates_other p.other)) ≡ true → OffWhereLeaving (shown_outcome answer (planned_system t p s))
        by (Some status) out = tt
        by None out =
            let both = and_parts (is_last p.change) (activates_other p.other) out in
            off_besides p.other (with_change t p.change s) both.1
            (subst IsOff (sym (get_or-set_same s.tasks t (changed_task p.change (task s t)) sleeping_task inside)) (ends_off p.change (task s t) both.0))

    all_ended : (served : Service) (object mask : ℕ) → all_plans ends_or_answers (decision config served object mask t s) ≡ true
        → OffWhereLeaving (outcome config served object mask t s)
    all_ended served object mask out =
        on_outcome OffWhereLeaving t s (decision config served object mask t s)
        (on_tested s (λ p. OffWhereLeaving (shown_outcome p.answer (planned_system t p s))) ends_or_answers ended (decision config served object mask t s) out)

    served_off : (served : Service) (object mask : ℕ) → ((is_service served service.ActivateTask || is_service served service.ChainTask) && (object == t)) ≡ false
        → OffWhereLeaving (outcome config served object mask t s)
    served_off service.ChainTask object mask off =
        on_outcome OffWhereLeaving t s (decision config service.ChainTask object mask t s) (
          λ same. absurd (true≢false (sym same ∙ off)),
          λ _. ((λ _. ended (plan None change.End (other.Activate object)) (ap not off)), (λ _. tt)),
        )
    served_off service.Schedule object mask off = all_ended service.Schedule object mask refl
    served_off served object mask off = all_ended served object mask refl

  pub not_waiting : (next : System) → IsValid config app next → t < length config.tasks → IsOff (task next t) → Asleep next
  not_waiting next v inside (inl asleep) = asleep
  not_waiting next v inside (inr waits) =
      absurd (false≢true (sym basic ∙ (subst (InState config t (task next t)) waits.1 (v.each t inside).in_state).2))

  pub left_asleep : (e : Event) (s next : System) → OsekStep config app e s next → is_left t e ≡ true → IsValid config app s → IsValid config app next → Asleep next
  left_asleep (event.Left u served) s next step left v w =
      not_waiting next w own.top.declared
      (subst (λ (x : System). IsOff (task x t)) (sym step.1.2)
      (subst OffWhereLeaving own.is
      (served_off s (subst (λ n. t < n) (sym v.count) own.top.declared) served own.call.object own.call.mask (unnamed_call t served s (Leaves step.1.0) own))))
    where
      own : IsServiceStep config app t served s (Leaves step.1.0)
      own = subst (λ x. IsServiceStep config app x served s (Leaves step.1.0)) (eqb-true u t left) step.1.1
  left_asleep e s next step left v w = absurd (false≢true left)
