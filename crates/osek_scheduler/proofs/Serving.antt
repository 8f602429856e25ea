-- A service keeps a state valid.
use Rattle.std.proofs.Common.{◌≡◌, ℕ, ◌-◌, ◌<◌, ◌==◌, ◌⊎◌, List, [], ◌∷◌, ◌++◌, Bool, true, false, ◌&&◌, length, set, refl, sym, ap, ◌∙◌, subst, arith, inl, inr, bit_and, bit_or, min, max}
use Rattle.std.proofs.lemmas.Bool.{true≢false, false≢true, or_from, or_cases, eqb-true, eqb-false, cond_both, not_from_false, ne_eqb}
use Rattle.std.proofs.lemmas.List.{append_assoc, length-set, get_or-set_same, get_or-set_other}
use Rattle.std.proofs.lemmas.Nat.{and_le_l, and_le_r, and_assoc, and_comm}
use Rattle.std.proofs.lemmas.Nat.Bits.{bit_at_or, bit_at_and, same_from_bits}
use Rattle.std.specs.Int.{bit_at}
use Rattle.sloth_base.specs.declared.config.Config.{Config}
use Rattle.sloth_base.specs.declared.app.App.{App}
use Rattle.sloth_base.specs.declared.app.Op.{Op}
use Rattle.sloth_base.specs.declared.app.Op.TheVariants as op
use Rattle.sloth_base.specs.declared.service.Service.{Service}
use Rattle.sloth_base.specs.declared.service.Service.TheVariants as service
use Rattle.osek_scheduler.specs.declared.state.TaskState.{TaskState}
use Rattle.osek_scheduler.specs.declared.state.TaskState.TheVariants as mode
use Rattle.osek_scheduler.specs.State.{Frame, Task, System, sleeping_task, task, with_task, alarm, zero_registers}
use Rattle.sloth_base.specs.Named.{declaration, undeclared_task}
use Rattle.sloth_base.specs.Status.{E_OK, E_OS_LIMIT, E_OS_NOFUNC, E_OS_STATE, E_OS_VALUE}
use Rattle.osek_scheduler.specs.Services.{activated_state, answered_task, answered_task_with, waiting_task, woken_state, with_events, set_events, moved_frames, ServiceOutcome, state_number}
use Rattle.osek_scheduler.proofs.ServiceStates.{answered_state, answered_state_with, ended_state, IsAfter}
use Rattle.osek_scheduler.specs.Outcomes.{planned_system, shown_outcome, alarm_setting_decision, decision, outcome}
use Rattle.osek_scheduler.proofs.AllPlans.{OnPlans}
use Rattle.osek_scheduler.proofs.Outcomes.{on_outcome}
use Rattle.osek_scheduler.specs.Steps.{IsServiceStep}
use Rattle.code_rules.specs.Code.{service_op, is_followed, held_after, IsPausing, IsEnding, is_in, without_last}
use Rattle.osek_scheduler.proofs.Facts.{Facts}
use Rattle.code_rules.specs.WellFormed.{held_list_before, HasEvents}
use Rattle.osek_scheduler.specs.Valid.{MayHold, held_by, InState, IsValidTask, IsValid}
use Rattle.osek_scheduler.proofs.Stacks.{is_in-append, distinct-push, in-without_last, distinct-without_last, without_last-push, task_reaches, outer_free, outer_new, in_body_alone}
use Rattle.osek_scheduler.proofs.Going.{keeps, alarm_kept, state_kept, Running, running, falls_on, goes_on}

-- ---- events

-- the bits of the second are among those of the first
abbrev Covers : (d a : ℕ) → Type 0
Covers d a = bit_and a d ≡ a

covers_or : (a m d : ℕ) → Covers d a → Covers d m → Covers d (bit_or a m)
covers_or a m d f g =
    same_from_bits _ _
    (λ i. bits (bit_at a i) (bit_at m i) (bit_at d i) _ _ (bit_at_or a m i) (bit_at_and (bit_or a m) d i)
    (sym (bit_at_and a d i) ∙ ap (λ x. bit_at x i) f) (sym (bit_at_and m d i) ∙ ap (λ x. bit_at x i) g))
  where
    bits : (a m d o r : ℕ) → o ≡ max a m → r ≡ min o d → min a d ≡ a → min m d ≡ m → r ≡ o
    bits a m d o r e f g h = omega (arith, e, f, g, h)

covers_part : (a m d : ℕ) → Covers d a → Covers d (bit_and a m)
covers_part a m d f = and_assoc d a m ∙ ap (bit_and a) (and_comm m d) ∙ sym (and_assoc m a d) ∙ ap (λ x. bit_and x m) f

pub covers_none : (d : ℕ) → Covers d 0
covers_none d = omega (arith, and_le_l 0 d)

-- ---- states of other tasks

module _ (config : Config) (app : App) where
  -- a Suspended task becomes Ready
  pub ready_task : (t : ℕ) (k : Task) → IsValidTask config app t k → k.state ≡ mode.Suspended → IsValidTask config app t (record k { state = mode.Ready })
  ready_task t k valid asleep =
      let rests = subst (InState config t k) asleep valid.in_state in
      record {
        registers = valid.registers;
        calls = valid.calls;
        held = valid.held;
        listed = valid.listed;
        distinct = valid.distinct;
        events = valid.events;
        in_state = (record { holds = rests.0.holds; not_owed = rests.0.not_owed; not_raised = rests.0.not_raised }, inl rests.1);
      }

  pub activated_valid : (s : System) (t : ℕ) → IsValid config app s → s.booted ≡ true → t < length config.tasks → (task s t).state ≡ mode.Suspended
      → IsValid config app (activated_state s t)
  activated_valid s t v booted declared asleep =
      keeps config app s t (record (task s t) { state = mode.Ready }) v booted declared (ready_task t (task s t) (v.each t declared) asleep)

  -- a task that waits becomes Ready
  woken_valid : (s : System) (t mask : ℕ) → IsValid config app s → s.booted ≡ true → t < length config.tasks → (task s t).state ≡ mode.Waiting mask
      → IsValid config app (activated_state s t)
  woken_valid s t mask v booted declared waiting =
      let k = v.each t declared in
      let rests = subst (InState config t (task s t)) waiting k.in_state in
      keeps config app s t (record (task s t) { state = mode.Ready }) v booted declared
      (record {
        registers = k.registers;
        calls = k.calls;
        held = k.held;
        listed = k.listed;
        distinct = k.distinct;
        events = k.events;
        in_state = (record { holds = rests.0.holds; not_owed = rests.0.not_owed; not_raised = rests.0.not_raised }, inr rests.2);
      })

  -- the events of a task that is not Suspended change
  events_valid : (s : System) (t events : ℕ) → IsValid config app s → s.booted ≡ true → t < length config.tasks → ((task s t).state ≡ mode.Suspended → ⊥)
      → HasEvents (declaration config t) events → IsValid config app (with_events s t events)
  events_valid s t events v booted declared awake covers =
      let k = v.each t declared in
      keeps config app s t (record (task s t) { events = events }) v booted declared
      (record {
        registers = k.registers;
        calls = k.calls;
        held = k.held;
        listed = k.listed;
        distinct = k.distinct;
        events = covers;
        in_state = by (task s t).state refl k.in_state;
      })
    where
      by : (m : TaskState) → (task s t).state ≡ m → InState config t (task s t) m → InState config t (record (task s t) { events = events }) m
      by mode.Suspended e h = absurd (awake e)
      by mode.Ready e h = (record { holds = h.0.holds; not_owed = h.0.not_owed; not_raised = h.0.not_raised }, h.1)
      by mode.Active e h = (h.0, h.1, h.2)
      by (mode.Waiting mask) e h = (record { holds = h.0.holds; not_owed = h.0.not_owed; not_raised = h.0.not_raised }, h.1, h.2, h.3)

  woken_by : (m : TaskState) (events t : ℕ) (s : System) → (task s t).state ≡ m → IsValid config app s → s.booted ≡ true → t < length config.tasks
      → IsValid config app (woken_state m events t s)
  woken_by mode.Suspended events t s e v booted declared = v
  woken_by mode.Ready events t s e v booted declared = v
  woken_by mode.Active events t s e v booted declared = v
  woken_by (mode.Waiting mask) events t s e v booted declared =
      cond_both (bit_and events mask == 0) s (activated_state s t) (IsValid config app) (λ _. v) (λ _. woken_valid s t mask v booted declared e)

  pub set_events_valid : (s : System) (t mask : ℕ) → IsValid config app s → s.booted ≡ true → t < length config.tasks → ((task s t).state ≡ mode.Suspended → ⊥)
      → HasEvents (declaration config t) mask → IsValid config app (set_events t mask s)
  set_events_valid s t mask v booted declared awake covers =
      let events = bit_or (task s t).events mask in
      woken_by (task s t).state events t (with_events s t events)
      (state_kept s t t (record (task s t) { events = events }) refl)
      (events_valid s t events v booted declared awake (covers_or (task s t).events mask (declaration config t).events (v.each t declared).events covers))
      booted declared

-- a task that waits for its own events is extended
extended_is : (config : Config) (app : App) → Facts config app → (t mask : ℕ) → t < length config.tasks → 0 < mask → HasEvents (declaration config t) mask
    → (declaration config t).extended ≡ true
extended_is config app w t mask declared some covers =
    let of_task = w.in_range.configuration.tasks t undeclared_task declared in
    of_task.extended ∙ not_from_false _ (ne_eqb (declaration config t).events 0 (λ e. nothing (subst (λ x. bit_and mask x ≡ mask) e covers)))
  where
    nothing : bit_and mask 0 ≡ mask → ⊥
    nothing e = omega (arith, e, some, and_le_r mask 0)

-- ---- the services

module _ (config : Config) (app : App) (w : Facts config app) (s : System) (v : IsValid config app s) (booted : s.booted ≡ true)
    (c : ℕ) (frame : Frame) (outer : List Frame) where
  abbrev k : Task
  k = task s c

  -- the caller goes on with what it holds
  on : (o : Op) → Running config app c k frame outer o → is_followed o ≡ true → ((held : List ℕ) → held_after o held ≡ held) → (new : Task) → new.state ≡ k.state
      → new.frames ≡ moved_frames k.frames → new.held ≡ k.held → new.raised ≡ k.raised → new.owed ≡ k.owed → length new.registers ≡ 25
      → HasEvents (declaration config c) new.events → IsValid config app (with_task s c new)
  on o r goes holds new state frames held raised owed registers events =
      keeps config app s c new v booted r.declared (goes_on config app w c k frame outer o r new goes holds state frames held raised owed registers events)

  answered_is : (o : Op) → Running config app c k frame outer o → is_followed o ≡ true → ((held : List ℕ) → held_after o held ≡ held) → (status : ℕ)
      → IsValid config app (answered_state status c s)
  answered_is o r goes holds status = on o r goes holds (answered_task status k) refl refl refl refl refl (length-set k.registers 5 status ∙ r.registers) r.events

  answered_with_is : (o : Op) → Running config app c k frame outer o → is_followed o ≡ true → ((held : List ℕ) → held_after o held ≡ held) → (value : ℕ)
      → IsValid config app (answered_state_with value c s)
  answered_with_is o r goes holds value =
      on o r goes holds (answered_task_with value k) refl refl refl refl refl (length-set (set k.registers 5 E_OK) 6 value ∙ length-set k.registers 5 E_OK ∙ r.registers)
      r.events

  -- the state of each task behind the caller's answer
  same_state : (status t : ℕ) → (task (answered_state status c s) t).state ≡ (task s t).state
  same_state status t = state_kept s c t (answered_task status k) refl

  -- ---- nothing is held

  waits_free : (sv : Service) (o m : ℕ) → Running config app c k frame outer (service_op sv o m) → IsPausing sv
      → k.held ≡ []
  waits_free sv o m r pauses =
      r.held ∙ ap (λ l. l ++ held_list_before app frame.func frame.item)
      (outer_free config app w c frame.func frame.func frame.item o m sv outer r.called (inl refl) r.item pauses)
      ∙ w.serves_free frame.func frame.item o m sv r.item (inr pauses)

  ends_free : (sv : Service) (o m : ℕ) → Running config app c k frame outer (service_op sv o m) → IsEnding sv
      → k.held ≡ []
  ends_free sv o m r ends =
      let own = w.ends_in_task frame.func frame.item o m sv r.item ends in
      r.held ∙ ap (λ l. held_by app l ++ held_list_before app frame.func frame.item) (in_body_alone config app w c frame.func outer r.called own.0 own.1)
      ∙ w.serves_free frame.func frame.item o m sv r.item (inl ends)

  -- ---- the end of a task

  ended_is : (sv : Service) (o m : ℕ) → Running config app c k frame outer (service_op sv o m) → IsEnding sv
      → IsValid config app (ended_state c s)
  ended_is sv o m r ends =
      let none = ends_free sv o m r ends in
      keeps config app s c (record k { state = mode.Suspended; registers = zero_registers; frames = []; events = 0; raised = false }) v booted r.declared
      (record {
        registers = refl;
        calls = tt;
        held = none;
        listed = r.listed;
        distinct = r.distinct;
        events = covers_none (declaration config c).events;
        in_state = (record { holds = none; not_owed = r.free; not_raised = refl }, refl, refl);
      })

  -- what holds behind each plan that a service may take
  abbrev PlansAreValid : Service → ℕ → ℕ → Type 0
  PlansAreValid sv o m = OnPlans s (λ p. IsAfter (IsValid config app) (shown_outcome p.answer (planned_system c p s))) (decision config sv o m c s)

  chained_is : (t m : ℕ) → Running config app c k frame outer (service_op service.ChainTask t m) → PlansAreValid service.ChainTask t m
  chained_is t m r =
      let gone = ended_is service.ChainTask t m r (inr refl) in
      let new : Task = record k { state = mode.Suspended; registers = zero_registers; frames = []; events = 0; raised = false } in
      let declared = (w.items frame.func frame.item (service_op service.ChainTask t m) r.item).0 in (
        λ _. activated_valid config app (ended_state c s) c gone booted r.declared
            (ap (λ x. x.state) (get_or-set_same s.tasks c new sleeping_task (subst (λ n. c < n) (sym v.count) r.declared))),
        λ differs. (
          λ asleep. activated_valid config app (ended_state c s) t gone booted declared
              (ap (λ x. x.state) (get_or-set_other s.tasks c t new sleeping_task (eqb-false t c differs)) ∙ asleep),
          λ _. answered_is (service_op service.ChainTask t m) r refl (λ _. refl) E_OS_LIMIT,
        ),
      )

  -- ---- resources

  takes_is : (q m : ℕ) → Running config app c k frame outer (service_op service.GetResource q m)
      → IsValid config app (with_task s c (record (answered_task E_OK k) { held = k.held ++ (q ∷ []) }))
  takes_is q m r =
      let o = service_op service.GetResource q m in
      let before = held_list_before app frame.func frame.item in
      let may = w.takes_listed c frame.func frame.item q m (task_reaches config app w c frame.func outer r.declared r.called) r.item in
      let fresh : is_in q k.held ≡ false =
      ap (is_in q) r.held ∙ is_in-append q (held_by app outer) before
      ∙ or_from _ _ (outer_new config app w c frame.func frame.func frame.item q m outer r.called (inl refl) r.item)
      (w.takes_new frame.func frame.item q m r.item) in
      keeps config app s c (record (answered_task E_OK k) { held = k.held ++ (q ∷ []) }) v booted r.declared
      (falls_on config app w c k frame outer o r (record (answered_task E_OK k) { held = k.held ++ (q ∷ []) }) refl refl refl
      (ap (λ l. l ++ (q ∷ [])) r.held ∙ append_assoc (held_by app outer) before (q ∷ []))
      r.raised (λ e. absurd (true≢false (sym e ∙ r.free))) (length-set k.registers 5 E_OK ∙ r.registers)
      (λ x h. listed x (or_cases _ _ (sym (is_in-append x k.held (q ∷ [])) ∙ h)) may) (distinct-push k.held q r.distinct fresh) r.events)
    where
      listed : (x : ℕ) → (is_in x k.held ≡ true) ⊎ (is_in x (q ∷ []) ≡ true) → MayHold config c q → MayHold config c x
      listed x (inl h) may = r.listed x h
      listed x (inr h) may = subst (MayHold config c) (same x (or_cases _ _ h)) may
        where
          same : (y : ℕ) → ((q == y) ≡ true) ⊎ (false ≡ true) → q ≡ y
          same y (inl e) = eqb-true q y e
          same y (inr e) = absurd (false≢true e)

  releases_is : (q m : ℕ) → Running config app c k frame outer (service_op service.ReleaseResource q m)
      → IsValid config app (with_task s c (record (answered_task E_OK k) { held = without_last k.held }))
  releases_is q m r =
      let o = service_op service.ReleaseResource q m in
      let before = held_list_before app frame.func frame.item in
      let last = w.releases_last frame.func frame.item q m r.item in
      let left : without_last k.held ≡ held_by app outer ++ without_last before =
      ap without_last (r.held ∙ ap (λ l. held_by app outer ++ l) last.1 ∙ sym (append_assoc (held_by app outer) last.0 (q ∷ [])))
      ∙ without_last-push (held_by app outer ++ last.0) q
      ∙ ap (λ l. held_by app outer ++ l) (sym (ap without_last last.1 ∙ without_last-push last.0 q)) in
      keeps config app s c (record (answered_task E_OK k) { held = without_last k.held }) v booted r.declared
      (falls_on config app w c k frame outer o r (record (answered_task E_OK k) { held = without_last k.held }) refl refl refl left
      r.raised (λ e. absurd (true≢false (sym e ∙ r.free))) (length-set k.registers 5 E_OK ∙ r.registers)
      (λ x h. r.listed x (in-without_last x k.held h)) (distinct-without_last k.held r.distinct) r.events)

  -- ---- Schedule and waits

  schedules_is : (o m : ℕ) → Running config app c k frame outer (service_op service.Schedule o m)
      → IsValid config app (with_task s c (record (answered_task E_OK k) { raised = false; owed = true }))
  schedules_is o m r =
      let none = waits_free service.Schedule o m r (inr refl) in
      keeps config app s c (record (answered_task E_OK k) { raised = false; owed = true }) v booted r.declared
      (falls_on config app w c k frame outer (service_op service.Schedule o m) r (record (answered_task E_OK k) { raised = false; owed = true }) refl refl refl
      r.held (no_more (declaration config c).non) (λ _. none) (length-set k.registers 5 E_OK ∙ r.registers) r.listed r.distinct r.events)
    where
      no_more : (b : Bool) → false ≡ (b && false)
      no_more true = refl
      no_more false = refl

  waits_is : (o m : ℕ) → Running config app c k frame outer (service_op service.WaitEvent o m) → IsValid config app (with_task s c (waiting_task m k))
  waits_is o m r =
      let op = service_op service.WaitEvent o m in
      let none = waits_free service.WaitEvent o m r (inl refl) in
      let next = falls_on config app w c k frame outer op r (answered_task E_OK k) refl refl refl r.held r.raised (λ _. none) (length-set k.registers 5 E_OK ∙ r.registers)
      r.listed r.distinct r.events in
      let active = subst (InState config c (answered_task E_OK k)) r.active next.in_state in
      let own = w.waits_own c frame.func frame.item o m (task_reaches config app w c frame.func outer r.declared r.called) r.item in
      keeps config app s c (waiting_task m k) v booted r.declared
      (record {
        registers = r.registers;
        calls = next.calls;
        held = next.held;
        listed = r.listed;
        distinct = r.distinct;
        events = r.events;
        in_state = (
          record { holds = none; not_owed = r.free; not_raised = refl },
          active.0,
          extended_is config app w c m r.declared (w.waits frame.func frame.item o m r.item) own,
          own,
        );
      })

  -- ---- alarms

  -- a service that sets an alarm: its caller goes on, whichever its answer is
  sets_are : (o : Op) → Running config app c k frame outer o → is_followed o ≡ true → ((held : List ℕ) → held_after o held ≡ held)
      → (a : ℕ) (allowed : Bool) (left cycle : ℕ) → OnPlans s (λ p. IsAfter (IsValid config app) (shown_outcome p.answer (planned_system c p s))) (alarm_setting_decision a allowed left cycle s)
  sets_are o r goes holds a allowed left cycle = (
    λ _. answered_is o r goes holds E_OS_STATE,
    λ _. (
      λ _. alarm_kept config app (answered_state E_OK c s) a (record { left = left; cycle = cycle }) (answered_is o r goes holds E_OK),
      λ _. answered_is o r goes holds E_OS_VALUE,
    ),
  )

  -- ---- all services

  plans_valid : (sv : Service) (o m : ℕ) → Running config app c k frame outer (service_op sv o m) → PlansAreValid sv o m
  plans_valid service.ActivateTask t m r = (
    λ asleep. activated_valid config app (answered_state E_OK c s) t (answered_is (service_op service.ActivateTask t m) r refl (λ _. refl) E_OK) booted
        (w.items frame.func frame.item (service_op service.ActivateTask t m) r.item).0 (same_state E_OK t ∙ asleep),
    λ _. answered_is (service_op service.ActivateTask t m) r refl (λ _. refl) E_OS_LIMIT,
  )
  plans_valid service.TerminateTask o m r = ended_is service.TerminateTask o m r (inl refl)
  plans_valid service.ChainTask t m r = chained_is t m r
  plans_valid service.Schedule o m r = schedules_is o m r
  plans_valid service.GetTaskID o m r = answered_with_is (service_op service.GetTaskID o m) r refl (λ _. refl) c
  plans_valid service.GetTaskState t m r = answered_with_is (service_op service.GetTaskState t m) r refl (λ _. refl) (state_number c t (task s t).state)
  plans_valid service.GetResource q m r = takes_is q m r
  plans_valid service.ReleaseResource q m r = releases_is q m r
  plans_valid service.SetEvent t m r = (
    λ _. answered_is (service_op service.SetEvent t m) r refl (λ _. refl) E_OS_STATE,
    λ awake. set_events_valid config app (answered_state E_OK c s) t m (answered_is (service_op service.SetEvent t m) r refl (λ _. refl) E_OK) booted
        (w.items frame.func frame.item (service_op service.SetEvent t m) r.item).0 (λ e. awake (sym (same_state E_OK t) ∙ e))
        (w.sets_declared frame.func frame.item t m r.item),
  )
  plans_valid service.ClearEvent o m r =
      on (service_op service.ClearEvent o m) r refl (λ _. refl) (record (answered_task E_OK k) { events = bit_and k.events (4294967295 - m) }) refl refl refl refl refl
      (length-set k.registers 5 E_OK ∙ r.registers) (covers_part k.events (4294967295 - m) (declaration config c).events r.events)
  plans_valid service.GetEvent t m r = (
    λ _. answered_is (service_op service.GetEvent t m) r refl (λ _. refl) E_OS_STATE,
    λ _. answered_with_is (service_op service.GetEvent t m) r refl (λ _. refl) (task s t).events,
  )
  plans_valid service.WaitEvent o m r = (λ _. waits_is o m r, λ _. answered_is (service_op service.WaitEvent o m) r refl (λ _. refl) E_OK)
  plans_valid service.SetRelAlarm a m r = sets_are (service_op service.SetRelAlarm a m) r refl (λ _. refl) a _ _ _
  plans_valid service.SetAbsAlarm a m r = sets_are (service_op service.SetAbsAlarm a m) r refl (λ _. refl) a _ _ _
  plans_valid service.CancelAlarm a m r = (
    λ _. alarm_kept config app (answered_state E_OK c s) a (record (alarm s a) { left = 0 })
        (answered_is (service_op service.CancelAlarm a m) r refl (λ _. refl) E_OK),
    λ _. answered_is (service_op service.CancelAlarm a m) r refl (λ _. refl) E_OS_NOFUNC,
  )
  plans_valid service.GetAlarm a m r = (
    λ _. answered_with_is (service_op service.GetAlarm a m) r refl (λ _. refl) (alarm s a).left,
    λ _. answered_is (service_op service.GetAlarm a m) r refl (λ _. refl) E_OS_NOFUNC,
  )

  pub outcome_valid : (sv : Service) (o m : ℕ) → Running config app c k frame outer (service_op sv o m) → IsAfter (IsValid config app) (outcome config sv o m c s)
  outcome_valid sv o m r = on_outcome (IsAfter (IsValid config app)) c s (decision config sv o m c s) (plans_valid sv o m r)

pub serves_valid : (config : Config) (app : App) → Facts config app → (t : ℕ) (served : Service) (s : System) (answer : ServiceOutcome) → IsValid config app s
    → s.booted ≡ true → IsServiceStep config app t served s answer → IsAfter (IsValid config app) answer
serves_valid config app w t served s answer v booted h =
    let at = running config app s t (op.Serve h.call) v h.top.declared h.at in
    let R : Service → Type 0 = λ x. Running config app t (task s t) h.at.frame h.at.outer (service_op x h.call.object h.call.mask) in
    subst (IsAfter (IsValid config app)) h.is
    (outcome_valid config app w s v booted t h.at.frame h.at.outer served h.call.object h.call.mask (subst R h.same at))
