-- What events leave of one alarm.
use Rattle.std.proofs.Common.{◌≡◌, ℕ, zero, suc, ◌+◌, ◌-◌, ◌<◌, ◌≤◌, ◌⊎◌, ◌==◌, ◌&&◌, ◌||◌, not, List, [], ◌∷◌, Bool, true, false, cond, length, get_or, refl, sym, ap, ◌∙◌, subst, arith, inl, inr, Some, bit_and, bit_or}
use Rattle.std.proofs.lemmas.Bool.{cases_eq, cases_lt, cond_both, false≢true, eqb-true, eqb-false, ne_eqb, eq-eqb, not-true}
use Rattle.std.proofs.lemmas.List.{get_or-set_same, get_or_past, set_past}
use Rattle.sloth_base.specs.Options.{is_number}
use Rattle.sloth_base.specs.declared.config.Action.{Action}
use Rattle.sloth_base.specs.declared.config.Action.TheVariants as action
use Rattle.sloth_base.specs.declared.config.AlarmDecl.{AlarmDecl}
use Rattle.sloth_base.specs.declared.config.Config.{Config}
use Rattle.sloth_base.specs.declared.app.App.{App}
use Rattle.sloth_base.specs.declared.service.Event.{Event}
use Rattle.sloth_base.specs.declared.service.Event.TheVariants as event
use Rattle.sloth_base.specs.declared.service.Service.{Service}
use Rattle.sloth_base.specs.declared.service.Service.TheVariants as service
use Rattle.sloth_base.specs.Named.{operation, counter_declaration, undeclared_alarm, alarm_declaration}
use Rattle.sloth_base.specs.ServiceCodes.{is_service}
use Rattle.osek_scheduler.specs.declared.change.TaskChange.TheVariants as change
use Rattle.osek_scheduler.specs.declared.change.Other.{Other}
use Rattle.osek_scheduler.specs.declared.change.Other.TheVariants as other
use Rattle.osek_scheduler.specs.declared.change.Plan.{Plan}
use Rattle.osek_scheduler.specs.declared.state.Alarm.{Alarm}
use Rattle.osek_scheduler.specs.declared.state.TaskState.{TaskState}
use Rattle.osek_scheduler.specs.declared.state.TaskState.TheVariants as mode
use Rattle.osek_scheduler.specs.State.{System, task, no_alarm, alarm, with_alarm}
use Rattle.osek_scheduler.specs.Changes.{with_change}
use Rattle.osek_scheduler.specs.Services.{activated_state, woken_state, with_events, set_events, with_left, acted_state, alarm_ticked_state, alarms_ticked_state, counted_on_state, ticked_state, ServiceOutcome}
use Rattle.sloth_base.specs.Status.{E_OK, E_OS_NOFUNC}
use Rattle.osek_scheduler.specs.Outcomes.{plan, decision, outcome, with_other, planned_system, shown_outcome}
use Rattle.osek_scheduler.specs.Steps.{OsekStep, IsServiceStep}
use Rattle.osek_scheduler.proofs.AllPlans.{all_plans}
use Rattle.osek_scheduler.proofs.Going.{at_set}
use Rattle.osek_scheduler.proofs.Outcomes.{by_suspended, on_outcome, on_tested, shown_after}
use Rattle.osek_scheduler.proofs.ServiceStates.{IsAfter}
use Rattle.run_counts.proofs.StepCases.{clock_behind}
use Rattle.response_laws.specs.Turns.{ticking_counter}
use Rattle.response_laws.specs.Expiries.{sets_alarm}

-- ---- a tick

-- an alarm that counts one tick, if it does
abbrev pub alarm_behind : (counts : Bool) → Alarm → Alarm
alarm_behind counts k = cond counts (record { left = cond (k.left == 1) k.cycle (k.left - 1); cycle = k.cycle }) k

module _ (a : ℕ) where
  written_other : (s : System) (b : ℕ) (new : Alarm) → (b ≡ a → ⊥) → alarm (with_alarm s b new) a ≡ alarm s a
  written_other s b new n = at_set s.clock.alarms b a new no_alarm (λ (k : Alarm). k ≡ alarm s a) refl (λ e. absurd (n (sym e)))

  -- where it is written, if it is there
  written_own : (s : System) (new : Alarm) → (alarm s a ≡ no_alarm → new ≡ no_alarm) → alarm (with_alarm s a new) a ≡ new
  written_own s new same = by (cases_lt a (length s.clock.alarms))
    where
      by : (a < length s.clock.alarms) ⊎ (length s.clock.alarms ≤ a) → alarm (with_alarm s a new) a ≡ new
      by (inl lt) = get_or-set_same s.clock.alarms a new no_alarm lt
      by (inr past) =
          let none = get_or_past s.clock.alarms a no_alarm past in
          ap (λ ks. get_or ks a no_alarm) (set_past s.clock.alarms a new past) ∙ none ∙ sym (same none)

  set_same : (t mask : ℕ) (s : System) → alarm (set_events t mask s) a ≡ alarm s a
  set_same t mask s = by (task s t).state
    where
      by : (m : TaskState) → alarm (woken_state m (bit_or (task s t).events mask) t (with_events s t (bit_or (task s t).events mask))) a ≡ alarm s a
      by mode.Suspended = refl
      by mode.Ready = refl
      by mode.Active = refl
      by (mode.Waiting awaited) =
          cond_both (bit_and (bit_or (task s t).events mask) awaited == 0) (with_events s t (bit_or (task s t).events mask))
          (activated_state (with_events s t (bit_or (task s t).events mask)) t) (λ (x : System). alarm x a ≡ alarm s a) (λ _. refl) (λ _. refl)

  acted_same : (does : Action) (s : System) → alarm (acted_state does s) a ≡ alarm s a
  acted_same (action.Activate t) s =
      by_suspended (task s t).state (activated_state s t) s (λ (x : System). alarm x a ≡ alarm s a) (λ _. refl) (λ _. refl)
  acted_same (action.Set t mask) s =
      by_suspended (task s t).state s (set_events t mask s) (λ (x : System). alarm x a ≡ alarm s a) (λ _. refl) (λ _. set_same t mask s)

  pub ticked_other : (does : Action) (b : ℕ) (s : System) → (b ≡ a → ⊥) → alarm (alarm_ticked_state does b s) a ≡ alarm s a
  ticked_other does b s n =
      cond_both ((alarm s b).left == 1) (acted_state does (with_left b (alarm s b).cycle s)) (with_left b ((alarm s b).left - 1) s)
      (λ (x : System). alarm x a ≡ alarm s a)
      (λ _. acted_same does (with_left b (alarm s b).cycle s) ∙ written_other s b (record (alarm s b) { left = (alarm s b).cycle }) n)
      (λ _. written_other s b (record (alarm s b) { left = (alarm s b).left - 1 }) n)

  ticked_own : (does : Action) (s : System) → alarm (alarm_ticked_state does a s) a ≡ alarm_behind true (alarm s a)
  ticked_own does s = by ((alarm s a).left == 1) refl
    where
      by : (b : Bool) → ((alarm s a).left == 1) ≡ b
          → alarm (cond b (acted_state does (with_left a (alarm s a).cycle s)) (with_left a ((alarm s a).left - 1) s)) a
          ≡ record { left = cond b (alarm s a).cycle ((alarm s a).left - 1); cycle = (alarm s a).cycle }
      by true is =
          acted_same does (with_left a (alarm s a).cycle s)
          ∙ written_own s (record (alarm s a) { left = (alarm s a).cycle })
          (λ none. absurd (false≢true (sym (ap (λ (k : Alarm). k.left == 1) none) ∙ is)))
      by false is = written_own s (record (alarm s a) { left = (alarm s a).left - 1 }) (λ none. ap (λ (k : Alarm). record { left = k.left - 1; cycle = k.cycle }) none)

  pub one_other : (c b : ℕ) (d : AlarmDecl) (s : System) → (b ≡ a → ⊥) → alarm (cond (d.counter == c) (alarm_ticked_state d.action b s) s) a ≡ alarm s a
  one_other c b d s n =
      cond_both (d.counter == c) (alarm_ticked_state d.action b s) s (λ (x : System). alarm x a ≡ alarm s a) (λ _. ticked_other d.action b s n) (λ _. refl)

  beyond : (c first : ℕ) (ds : List AlarmDecl) (s : System) → a < first → alarm (alarms_ticked_state c first ds s) a ≡ alarm s a
  beyond c first [] s lt = refl
  beyond c first (d ∷ ds) s lt =
      beyond c (first + 1) ds (cond (d.counter == c) (alarm_ticked_state d.action first s) s) (omega (arith, lt))
      ∙ one_other c first d s (λ e. omega (arith, e, lt))

  -- a tick of counter c
  among : (c first i : ℕ) (ds : List AlarmDecl) (s : System) → first + i ≡ a → i < length ds
      → alarm (alarms_ticked_state c first ds s) a ≡ alarm_behind ((get_or ds i undeclared_alarm).counter == c) (alarm s a)
  among c first i [] s at lt = absurd (omega (arith, lt))
  among c first zero (d ∷ ds) s at lt =
      beyond c (first + 1) ds (cond (d.counter == c) (alarm_ticked_state d.action first s) s) (omega (arith, at)) ∙ by (d.counter == c)
    where
      here : first ≡ a
      here = omega (arith, at)

      by : (b : Bool) → alarm (cond b (alarm_ticked_state d.action first s) s) a ≡ alarm_behind b (alarm s a)
      by true = ap (λ n. alarm (alarm_ticked_state d.action n s) a) here ∙ ticked_own d.action s
      by false = refl
  among c first (suc i) (d ∷ ds) s at lt =
      among c (first + 1) i ds (cond (d.counter == c) (alarm_ticked_state d.action first s) s) (omega (arith, at)) (omega (arith, lt))
      ∙ ap (alarm_behind ((get_or ds i undeclared_alarm).counter == c)) (one_other c first d s (λ e. omega (arith, e, at)))

-- ---- a service

module _ (config : Config) (app : App) (a : ℕ) (inside : a < length config.alarms) where
  -- nothing but this sets another alarm
  abbrev leaves_alone : Other → Bool
  leaves_alone (other.SetAlarm b left cycle) = not (b == a)
  leaves_alone o = true

  -- it is as it was, or cancelled
  abbrev pub Calm : System → System → Type 0
  Calm s x = (alarm x a ≡ alarm s a) ⊎ (((alarm x a).left ≡ 0) × ((alarm x a).cycle ≡ (alarm s a).cycle))

  -- what is done besides does not set the alarm
  abbrev is_calm : Plan → Bool
  is_calm p = leaves_alone p.other

  module _ (c : ℕ) (s : System) where
    besides : (o : Other) (x : System) → leaves_alone o ≡ true → alarm x a ≡ alarm s a → alarm (with_other o x) a ≡ alarm s a
    besides other.Nothing x is h = h
    besides (other.Activate t) x is h = h
    besides (other.AddEvents t mask) x is h = set_same a t mask x ∙ h
    besides (other.Store y w offset value) x is h = h
    besides (other.SetAlarm b left cycle) x is h =
        written_other a x b (record { left = left; cycle = cycle }) (eqb-false b a (not-true (b == a) is)) ∙ h

    planned : (p : Plan) → is_calm p ≡ true → IsAfter (Calm s) (shown_outcome p.answer (planned_system c p s))
    planned p is = shown_after (Calm s) p.answer (planned_system c p s) (inl (besides p.other (with_change c p.change s) is refl))

    tested : (served : Service) (object mask : ℕ) → all_plans is_calm (decision config served object mask c s) ≡ true
        → IsAfter (Calm s) (outcome config served object mask c s)
    tested served object mask is =
        on_outcome (IsAfter (Calm s)) c s (decision config served object mask c s)
        (on_tested s (λ p. IsAfter (Calm s) (shown_outcome p.answer (planned_system c p s))) is_calm planned (decision config served object mask c s) is)

    cancelled : (object mask : ℕ) → object ≡ a → IsAfter (Calm s) (outcome config service.CancelAlarm object mask c s)
    cancelled object mask e =
        on_outcome (IsAfter (Calm s)) c s (decision config service.CancelAlarm object mask c s) (
          λ _. subst (λ b. Calm s (with_alarm (with_change c (change.Answer E_OK) s) b (record { left = 0; cycle = (alarm s b).cycle }))) (sym e) (inr (ap (λ (k : Alarm). k.left) zero, ap (λ (k : Alarm). k.cycle) zero)),
          λ _. planned (plan (Some E_OS_NOFUNC) (change.Answer E_OS_NOFUNC) other.Nothing) refl,
        )
      where
        zero : alarm (with_alarm (with_change c (change.Answer E_OK) s) a (record { left = 0; cycle = (alarm s a).cycle })) a
            ≡ record { left = 0; cycle = (alarm s a).cycle }
        zero =
            written_own a (with_change c (change.Answer E_OK) s) (record { left = 0; cycle = (alarm s a).cycle })
            (λ none. ap (λ (k : Alarm). record { left = 0; cycle = k.cycle }) none)

    served_calm : (served : Service) (object mask : ℕ) → ((is_service served service.SetRelAlarm || is_service served service.SetAbsAlarm) && (object == a)) ≡ false
        → IsAfter (Calm s) (outcome config served object mask c s)
    served_calm service.SetRelAlarm object mask off = tested service.SetRelAlarm object mask (ap (λ b. not b && true) off)
    served_calm service.SetAbsAlarm object mask off = tested service.SetAbsAlarm object mask (ap (λ b. not b && true) off)
    served_calm service.CancelAlarm object mask off = by (cases_eq object a)
      where
        by : (object ≡ a) ⊎ (object ≡ a → ⊥) → IsAfter (Calm s) (outcome config service.CancelAlarm object mask c s)
        by (inl e) = cancelled object mask e
        by (inr n) = tested service.CancelAlarm object mask (ap (λ b. not b && true) (ne_eqb object a n))
    served_calm served object mask off = tested served object mask refl

  -- the item of a call does not set the alarm
  abbrev pub SetsNot : System → Type 0
  SetsNot s = (t : ℕ) (served : Service) (answer : ServiceOutcome) (h : IsServiceStep config app t served s answer)
      → sets_alarm a (operation app h.at.frame.func h.at.frame.item) ≡ false

  called_calm : (t : ℕ) (served : Service) (s : System) (answer : ServiceOutcome) → SetsNot s → IsServiceStep config app t served s answer → IsAfter (Calm s) answer
  called_calm t served s answer unset h = subst (IsAfter (Calm s)) h.is (served_calm t s served h.call.object h.call.mask off)
    where
      off : ((is_service served service.SetRelAlarm || is_service served service.SetAbsAlarm) && (h.call.object == a)) ≡ false
      off =
          ap (λ v. (is_service v service.SetRelAlarm || is_service v service.SetAbsAlarm) && (h.call.object == a)) (sym h.same)
          ∙ sym (ap (sets_alarm a) h.at.next) ∙ unset t served answer h

  -- ---- events

  -- what an event leaves of the alarm: a tick of its counter counts
  abbrev pub Leaves_it : Event → System → System → Type 0
  Leaves_it e s next =
      (is_number (alarm_declaration config a).counter (ticking_counter e) ≡ true → alarm next a ≡ alarm_behind true (alarm s a))
      × (is_number (alarm_declaration config a).counter (ticking_counter e) ≡ false → Calm s next)

  -- a tick of its counter counts, and one of another leaves it
  ticked_alarm : (d : ℕ) (s : System) → alarm (ticked_state config d s) a ≡ alarm_behind ((alarm_declaration config a).counter == d) (alarm s a)
  ticked_alarm d s = among a d 0 a config.alarms (counted_on_state d (counter_declaration config d).max s) (omega arith) inside

  counts_tick : (e : Event) (s next : System) → OsekStep config app e s next → is_number (alarm_declaration config a).counter (ticking_counter e) ≡ true
      → alarm next a ≡ alarm_behind true (alarm s a)
  counts_tick (event.Tick d) s next h is =
      ap (λ (x : System). alarm x a) h.2 ∙ ticked_alarm d s
      ∙ ap (λ b. alarm_behind b (alarm s a)) (eq-eqb (alarm_declaration config a).counter d (sym (eqb-true d (alarm_declaration config a).counter is)))
  counts_tick e s next h is = absurd (false≢true is)

  pub leaves_alarm : (e : Event) (s next : System) → SetsNot s → OsekStep config app e s next → Leaves_it e s next
  leaves_alarm e s next unset step = (
    counts_tick e s next step,
    clock_behind config app (λ what. is_number (alarm_declaration config a).counter (ticking_counter what) ≡ false) (Calm s) s
        (record {
          apart = λ x tasks symbols fresh calm. calm;
          same = λ started _. inl refl;
          serves = λ t served answer h _. called_calm t served s answer unset h;
          dues = λ c _ _. inl refl;
          ticks = λ d off _.
              inl (ticked_alarm d s
              ∙ ap (λ b. alarm_behind b (alarm s a)) (ne_eqb (alarm_declaration config a).counter d (λ e. eqb-false d (alarm_declaration config a).counter off (sym e))));
        })
        e next step,
  )
