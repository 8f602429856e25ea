-- An event of a task makes another Ready, or sets its events, only by a service that names it.
use Rattle.std.proofs.Common.{◌≡◌, ℕ, ◌-◌, ◌<◌, ◌≤◌, ◌⊎◌, ◌==◌, ◌&&◌, ◌||◌, not, length, List, [], ◌∷◌, Bool, true, false, cond, refl, sym, ap, ◌∙◌, subst, arith, inl, inr, Some, None, bit_and, bit_or}
use Rattle.std.specs.List.{AllByRecursion}
use Rattle.std.specs.Int.Bits.{or_add_and}
use Rattle.std.proofs.lemmas.Nat.{and_le_l, and_le_r}
use Rattle.std.proofs.lemmas.Bool.{cases_eq, cases_lt, false≢true, eqb-true, eqb-false, eq-eqb, ne_eqb, not-true, and_parts, and_right, or_parts}
use Rattle.sloth_base.specs.declared.config.Config.{Config}
use Rattle.sloth_base.specs.declared.app.App.{App}
use Rattle.sloth_base.specs.declared.service.Event.{Event}
use Rattle.sloth_base.specs.declared.service.Event.TheVariants as event
use Rattle.sloth_base.specs.declared.service.Stamped.{Stamped}
use Rattle.sloth_base.specs.declared.service.Service.{Service}
use Rattle.sloth_base.specs.declared.service.Service.TheVariants as service
use Rattle.sloth_base.specs.ServiceCodes.{is_service}
use Rattle.sloth_base.specs.Status.{E_OK, E_OS_LIMIT, E_OS_STATE}
use Rattle.sloth_base.specs.Named.{declaration}
use Rattle.code_rules.specs.WellFormed.{WellFormed}
use Rattle.osek_scheduler.specs.declared.change.TaskChange.{TaskChange}
use Rattle.osek_scheduler.specs.declared.change.TaskChange.TheVariants as change
use Rattle.osek_scheduler.specs.declared.change.Other.{Other}
use Rattle.osek_scheduler.specs.declared.change.Other.TheVariants as other
use Rattle.osek_scheduler.specs.declared.change.Plan.{Plan}
use Rattle.osek_scheduler.specs.declared.state.TaskState.{TaskState}
use Rattle.osek_scheduler.specs.declared.state.TaskState.TheVariants as mode
use Rattle.osek_scheduler.specs.State.{Frame, Task, System, sleeping_task, task, opening}
use Rattle.std.proofs.lemmas.List.{get_or-set_same, get_or_past}
use Rattle.sloth_base.specs.declared.app.Op.{Op}
use Rattle.sloth_base.specs.declared.app.Op.TheVariants as op
use Rattle.osek_scheduler.specs.Next.{is_ready}
use Rattle.osek_scheduler.specs.Changes.{changed_task, with_change}
use Rattle.osek_scheduler.specs.Services.{activated_state, woken_state, with_events, set_events, ServiceOutcome, GoesOn, Leaves}
use Rattle.osek_scheduler.specs.Outcomes.{plan, decision, outcome, with_other, planned_system, shown_outcome}
use Rattle.osek_scheduler.specs.Steps.{OsekStep, IsServiceStep}
use Rattle.osek_scheduler.specs.Valid.{InState, IsValid}
use Rattle.osek_scheduler.specs.Apart.{IsActive}
use Rattle.osek_scheduler.specs.Runs.{OsekRun}
use Rattle.osek_scheduler.proofs.AllPlans.{all_plans}
use Rattle.osek_scheduler.proofs.Apart.{at_task}
use Rattle.osek_scheduler.proofs.Facts.{facts}
use Rattle.osek_scheduler.proofs.Leading.{follows_leads}
use Rattle.osek_scheduler.proofs.Outcomes.{on_outcome, on_tested, shown_after}
use Rattle.osek_scheduler.proofs.ServiceStates.{IsAfter}
use Rattle.osek_scheduler.proofs.Steps.{opening_valid}
use Rattle.osek_blocking.proofs.Ordering.{opening_ordered}
use Rattle.osek_blocking.specs.Walks.{Position}
use Rattle.osek_blocking.specs.Sections.{operation_at}
use Rattle.walk_sums.specs.Weights.{going_at, ending_at}
use Rattle.walk_sums.specs.declared.counted.Counted.{Counted}
use Rattle.walk_sums.specs.declared.counted.Counted.TheVariants as counts
use Rattle.walk_sums.specs.Counted.{one_if, calls_for, is_going_counted, is_ending_counted, counted_weights}
use Rattle.run_counts.specs.Stages.{Stage, run_stages}
use Rattle.run_counts.specs.Rounds.{is_left}
use Rattle.sim_induction.specs.Events.{has_frames}
use Rattle.response_laws.specs.Turns.{is_ready_for, has_grown, activated, was_set}
use Rattle.response_laws.specs.Walked.{standing, is_executed, is_back, FitsItem}
use Rattle.response_laws.specs.Makers.{activation_weights, setting_weights, ItemsActivate, ItemsSet}
use Rattle.response_laws.proofs.Counting.{counted_going, counted_ending}
use Rattle.run_counts.proofs.States.{not_suspended, not_waiting}
use Rattle.response_laws.proofs.Linked.{Known, each_so, stages_known}
use Rattle.response_laws.proofs.Steps.{activated_between, set_between, not_activated, not_set, at_most_one, active_declared}

-- ---- one task's record

-- fewer events have not grown
not_grown : (old new : ℕ) → new ≤ old → has_grown old new ≡ false
not_grown old new le = by (bit_or old new == new) refl
  where
    more : old ≤ bit_or old new
    more = let sum = or_add_and old new in let part = and_le_r old new in omega (arith, sum, part)

    by : (b : Bool) → (bit_or old new == new) ≡ b → (b && not (new == old)) ≡ false
    by false e = refl
    by true e =
        let whole = eqb-true (bit_or old new) new e in
        let ge = more in
        ap not (eq-eqb new old (omega (arith, whole, ge, le)))

module _ (old : Task) where
  pub unready_acts : (k : Task) → is_ready k.state ≡ false → activated_between old k ≡ 0
  unready_acts k is =
      ap {B = ℕ} (λ b. cond (not (is_ready_for false old) && (b && not (has_frames k.frames))) 1 0) is
      ∙ ap {B = ℕ} (λ b. cond b 1 0) (and_right (not (is_ready_for false old)) false refl)

  pub begun_acts : (k : Task) → has_frames k.frames ≡ true → activated_between old k ≡ 0
  begun_acts k is =
      ap {B = ℕ} (λ b. cond (not (is_ready_for false old) && (is_ready k.state && not b)) 1 0) is
      ∙ ap {B = ℕ} (λ b. cond (not (is_ready_for false old) && b) 1 0) (and_right (is_ready k.state) false refl)
      ∙ ap {B = ℕ} (λ b. cond b 1 0) (and_right (not (is_ready_for false old)) false refl)

  pub unready_sets : (k : Task) → is_ready k.state ≡ false → k.events ≤ old.events → set_between old k ≡ 0
  unready_sets k is le =
      ap {B = ℕ} (λ b. cond ((not (is_ready_for true old) && (b && has_frames k.frames)) || has_grown old.events k.events) 1 0) is
      ∙ ap {B = ℕ} (λ b. cond (b || has_grown old.events k.events) 1 0) (and_right (not (is_ready_for true old)) false refl)
      ∙ ap {B = ℕ} (λ b. cond b 1 0) (not_grown old.events k.events le)

  pub fresh_sets : (k : Task) → has_frames k.frames ≡ false → k.events ≤ old.events → set_between old k ≡ 0
  fresh_sets k is le =
      ap {B = ℕ} (λ b. cond ((not (is_ready_for true old) && (is_ready k.state && b)) || has_grown old.events k.events) 1 0) is
      ∙ ap {B = ℕ} (λ b. cond ((not (is_ready_for true old) && b) || has_grown old.events k.events) 1 0) (and_right (is_ready k.state) false refl)
      ∙ ap {B = ℕ} (λ b. cond (b || has_grown old.events k.events) 1 0) (and_right (not (is_ready_for true old)) false refl)
      ∙ ap {B = ℕ} (λ b. cond b 1 0) (not_grown old.events k.events le)

-- a change of a caller that does not make it Ready and sets no event of it
abbrev is_quiet_change : TaskChange → Bool
is_quiet_change change.Activate = false
is_quiet_change (change.AddEvents mask) = false
is_quiet_change c = true

changed_unready : (c : TaskChange) (k : Task) → is_quiet_change c ≡ true → is_ready k.state ≡ false → is_ready (changed_task c k).state ≡ false
changed_unready change.Activate k is h = absurd (false≢true is)
changed_unready (change.AddEvents mask) k is h = absurd (false≢true is)
changed_unready change.End k is h = refl
changed_unready (change.Wait mask) k is h = refl
changed_unready (change.Start func words non) k is h = refl
changed_unready (change.Resume non) k is h = refl
changed_unready c k is h = h

changed_events : (c : TaskChange) (k : Task) → is_quiet_change c ≡ true → (changed_task c k).events ≤ k.events
changed_events change.Activate k is = absurd (false≢true is)
changed_events (change.AddEvents mask) k is = absurd (false≢true is)
changed_events change.End k is = omega arith
changed_events (change.ClearEvents mask) k is = and_le_l k.events (4294967295 - mask)
changed_events c k is = omega arith

-- ---- a service

module _ (j c : ℕ) (s : System) (active : IsActive s c) where
  unready : is_ready (task s c).state ≡ false
  unready = ap is_ready active

  -- what is done besides names task j in neither way
  abbrev leaves_out : Other → Bool
  leaves_out (other.Activate t) = not (t == j)
  leaves_out (other.AddEvents t mask) = not (t == j)
  leaves_out o = true

  abbrev is_quiet_plan : Plan → Bool
  is_quiet_plan p = is_quiet_change p.change && leaves_out p.other

  -- a fact on task j's record that quiet plans keep
  module _ (P : Task → Type 0) (itself : P (task s j)) (own : (d : TaskChange) → is_quiet_change d ≡ true → c ≡ j → P (changed_task d (task s j))) where
    abbrev Kept : System → Type 0
    Kept x = P (task x j)

    changed_kept : (d : TaskChange) → is_quiet_change d ≡ true → Kept (with_change c d s)
    changed_kept d is =
        at_task s c j (changed_task d (task s c)) P itself (λ e. subst (λ v. P (changed_task d (task s v))) e (own d is (sym e)))

    others_kept : (o : Other) (x : System) → leaves_out o ≡ true → Kept x → Kept (with_other o x)
    others_kept other.Nothing x is h = h
    others_kept (other.Activate t) x is h =
        at_task x t j (record (task x t) { state = mode.Ready }) P h (λ e. absurd (eqb-false t j (not-true (t == j) is) (sym e)))
    others_kept (other.AddEvents t mask) x is h = woken (task x t).state
      where
        away : (t ≡ j) → ⊥
        away e = eqb-false t j (not-true (t == j) is) e

        eventful : Kept (with_events x t (bit_or (task x t).events mask))
        eventful = at_task x t j (record (task x t) { events = bit_or (task x t).events mask }) P h (λ e. absurd (away (sym e)))

        woken : (m : TaskState) → Kept (woken_state m (bit_or (task x t).events mask) t (with_events x t (bit_or (task x t).events mask)))
        woken mode.Suspended = eventful
        woken mode.Ready = eventful
        woken mode.Active = eventful
        woken (mode.Waiting awaited) = by (bit_and (bit_or (task x t).events mask) awaited == 0)
          where
            by : (b : Bool)
                → Kept (cond b (with_events x t (bit_or (task x t).events mask)) (activated_state (with_events x t (bit_or (task x t).events mask)) t))
            by true = eventful
            by false =
                at_task (with_events x t (bit_or (task x t).events mask)) t j
                (record (task (with_events x t (bit_or (task x t).events mask)) t) { state = mode.Ready }) P eventful (λ e. absurd (away (sym e)))
    others_kept (other.Store y w offset value) x is h = h
    others_kept (other.SetAlarm a left cycle) x is h = h

    planned : (p : Plan) → is_quiet_plan p ≡ true → IsAfter Kept (shown_outcome p.answer (planned_system c p s))
    planned p is =
        let both = and_parts (is_quiet_change p.change) (leaves_out p.other) is in
        shown_after Kept p.answer (planned_system c p s) (others_kept p.other (with_change c p.change s) both.1 (changed_kept p.change both.0))

    -- services that make nothing, whomever they name
    tested : (config : Config) (served : Service) (object mask : ℕ) → all_plans is_quiet_plan (decision config served object mask c s) ≡ true
        → IsAfter Kept (outcome config served object mask c s)
    tested config served object mask is =
        on_outcome (IsAfter Kept) c s (decision config served object mask c s)
        (on_tested s (λ p. IsAfter Kept (shown_outcome p.answer (planned_system c p s))) is_quiet_plan planned (decision config served object mask c s) is)

    activated_other : (config : Config) (object mask : ℕ) → (object == j) ≡ false → IsAfter Kept (outcome config service.ActivateTask object mask c s)
    activated_other config object mask is = tested config service.ActivateTask object mask (ap (λ b. not b && true) is)

    set_other : (config : Config) (object mask : ℕ) → (object == j) ≡ false → IsAfter Kept (outcome config service.SetEvent object mask c s)
    set_other config object mask is = tested config service.SetEvent object mask (ap (λ b. true && not b) is)

    chained_other : (config : Config) (object mask : ℕ) → (object == j) ≡ false → IsAfter Kept (outcome config service.ChainTask object mask c s)
    chained_other config object mask is =
        on_outcome (IsAfter Kept) c s (decision config service.ChainTask object mask c s) (
          λ same. planned (plan None change.End (other.Activate c)) (ap not (subst (λ v. (v == j) ≡ false) (eqb-true object c same) is)),
          λ _. (
            λ _. planned (plan None change.End (other.Activate object)) (ap not is),
            λ _. planned (plan (Some E_OS_LIMIT) (change.Answer E_OS_LIMIT) other.Nothing) refl,
          ),
        )

-- a service that may make its task Ready to begin anew
abbrev is_activation : Service → Bool
is_activation service.ActivateTask = true
is_activation service.ChainTask = true
is_activation _ = false

module _ (config : Config) (app : App) (j c : ℕ) (s : System) (v : IsValid config app s) (active : IsActive s c) where
  -- ---- activations

  abbrev Acts : Task → Type 0
  Acts k = activated_between (task s j) k ≡ 0

  own_unready : c ≡ j → is_ready (task s j).state ≡ false
  own_unready e = subst (λ u. is_ready (task s u).state ≡ false) e (unready j c s active)

  own_acts : (d : TaskChange) → is_quiet_change d ≡ true → c ≡ j → Acts (changed_task d (task s j))
  own_acts d is e = unready_acts (task s j) (changed_task d (task s j)) (changed_unready d (task s j) is (own_unready e))

  -- the system behind what its caller does
  abbrev answered : System
  answered = with_change c (change.Answer E_OK) s

  -- a task that waits has begun
  waits_begun : (awaited : ℕ) → (task answered j).state ≡ mode.Waiting awaited → has_frames (task answered j).frames ≡ true
  waits_begun =
      at_task s c j (changed_task (change.Answer E_OK) (task s c)) (λ k. (awaited : ℕ) → k.state ≡ mode.Waiting awaited → has_frames k.frames ≡ true)
      (λ awaited is. by (task s j).frames (stands awaited is))
      (λ e awaited is. absurd (not_waiting (task s c).state awaited active is))
    where
      by : (fs : List Frame) → (fs ≡ [] → ⊥) → has_frames fs ≡ true
      by [] some = absurd (some refl)
      by (frame ∷ outer) some = refl

      within : (t : ℕ) → (awaited : ℕ) → (task s t).state ≡ mode.Waiting awaited → (t < length s.tasks) ⊎ (length s.tasks ≤ t) → (task s t).frames ≡ [] → ⊥
      within t awaited is (inl lt) none =
          (subst (InState config t (task s t)) is (v.each t (subst (λ n. t < n) v.count lt)).in_state).1 none
      within t awaited is (inr past) none =
          not_asleep (sym (ap (λ (k : Task). k.state) (get_or_past s.tasks t sleeping_task past)) ∙ is)
        where
          not_asleep : mode.Suspended ≡ mode.Waiting awaited → ⊥
          not_asleep e = cc

      stands : (awaited : ℕ) → (task s j).state ≡ mode.Waiting awaited → (task s j).frames ≡ [] → ⊥
      stands awaited is = within j awaited is (cases_lt j (length s.tasks))

  -- a SetEvent for it makes it go on
  eventful_acts : (mask : ℕ) → Acts (task (set_events j mask answered) j)
  eventful_acts mask = woken (task answered j).state refl
    where
      h : Acts (task answered j)
      h = changed_kept j c s active Acts (not_activated (task s j)) own_acts (change.Answer E_OK) refl

      set : Acts (task (with_events answered j (bit_or (task answered j).events mask)) j)
      set = at_task answered j j (record (task answered j) { events = bit_or (task answered j).events mask }) Acts h (λ _. h)

      woken : (m : TaskState) → (task answered j).state ≡ m
          → Acts (task (woken_state m (bit_or (task answered j).events mask) j (with_events answered j (bit_or (task answered j).events mask))) j)
      woken mode.Suspended e = set
      woken mode.Ready e = set
      woken mode.Active e = set
      woken (mode.Waiting awaited) e = by (bit_and (bit_or (task answered j).events mask) awaited == 0)
        where
          frames_begun : has_frames (task (with_events answered j (bit_or (task answered j).events mask)) j).frames ≡ true
          frames_begun =
              at_task answered j j (record (task answered j) { events = bit_or (task answered j).events mask }) (λ k. has_frames k.frames ≡ true)
              (waits_begun awaited e) (λ _. waits_begun awaited e)

          by : (b : Bool) → Acts (task (cond b (with_events answered j (bit_or (task answered j).events mask))
              (activated_state (with_events answered j (bit_or (task answered j).events mask)) j)) j)
          by true = set
          by false =
              at_task (with_events answered j (bit_or (task answered j).events mask)) j j
              (record (task (with_events answered j (bit_or (task answered j).events mask)) j) { state = mode.Ready }) Acts set
              (λ _. begun_acts (task s j) (record (task (with_events answered j (bit_or (task answered j).events mask)) j) { state = mode.Ready }) frames_begun)

  abbrev ActsAfter : ServiceOutcome → Type 0
  ActsAfter = IsAfter (λ (x : System). Acts (task x j))

  set_acts : (object mask : ℕ) → object ≡ j → ActsAfter (outcome config service.SetEvent object mask c s)
  set_acts object mask e =
      on_outcome ActsAfter c s (decision config service.SetEvent object mask c s) (
        λ _. planned j c s active Acts (not_activated (task s j)) own_acts (plan (Some E_OS_STATE) (change.Answer E_OS_STATE) other.Nothing) refl,
        λ _. subst (λ u. Acts (task (set_events u mask answered) j)) (sym e) (eventful_acts mask),
      )

  -- another than the activations of it
  service_acts : (served : Service) (object mask : ℕ) → (is_activation served && (object == j)) ≡ false → ActsAfter (outcome config served object mask c s)
  service_acts service.ActivateTask object mask is = activated_other j c s active Acts (not_activated (task s j)) own_acts config object mask is
  service_acts service.ChainTask object mask is = chained_other j c s active Acts (not_activated (task s j)) own_acts config object mask is
  service_acts service.SetEvent object mask is = by (cases_eq object j)
    where
      by : (object ≡ j) ⊎ (object ≡ j → ⊥) → ActsAfter (outcome config service.SetEvent object mask c s)
      by (inl e) = set_acts object mask e
      by (inr n) = set_other j c s active Acts (not_activated (task s j)) own_acts config object mask (ne_eqb object j n)
  service_acts served object mask is = tested j c s active Acts (not_activated (task s j)) own_acts config served object mask refl

  -- where its caller goes on, and where it leaves
  abbrev ActsWhereGoing : ServiceOutcome → Type 0
  ActsWhereGoing (GoesOn status x) = Acts (task x j)
  ActsWhereGoing (Leaves x) = Unit {0}

  abbrev ActsWhereLeaving : ServiceOutcome → Type 0
  ActsWhereLeaving (GoesOn status x) = Unit {0}
  ActsWhereLeaving (Leaves x) = Acts (task x j)

  where_going : (o : ServiceOutcome) → ActsAfter o → ActsWhereGoing o
  where_going (GoesOn status x) h = h
  where_going (Leaves x) h = tt

  where_leaving : (o : ServiceOutcome) → ActsAfter o → ActsWhereLeaving o
  where_leaving (GoesOn status x) h = tt
  where_leaving (Leaves x) h = h

  refused : Acts (task (planned_system c (plan (Some E_OS_LIMIT) (change.Answer E_OS_LIMIT) other.Nothing) s) j)
  refused = planned j c s active Acts (not_activated (task s j)) own_acts (plan (Some E_OS_LIMIT) (change.Answer E_OS_LIMIT) other.Nothing) refl

  -- a ChainTask that goes on is refused, and so is an ActivateTask of its caller
  chain_going : (object mask : ℕ) → ActsWhereGoing (outcome config service.ChainTask object mask c s)
  chain_going object mask = on_outcome ActsWhereGoing c s (decision config service.ChainTask object mask c s) ((λ _. tt), (λ _. ((λ _. tt), (λ _. refused))))

  itself_going : (object mask : ℕ) → object ≡ c → ActsAfter (outcome config service.ActivateTask object mask c s)
  itself_going object mask e =
      on_outcome ActsAfter c s (decision config service.ActivateTask object mask c s) (
        λ asleep. absurd (not_suspended (task s c).state active (subst (λ u. (task s u).state ≡ mode.Suspended) e asleep)),
        λ _. refused,
      )

  pub acts_going : (served : Service) (object mask : ℕ) → ((is_service served service.ActivateTask && (object == j)) ≡ false) ⊎ (c ≡ j)
      → ActsWhereGoing (outcome config served object mask c s)
  acts_going service.ActivateTask object mask (inl other) = where_going (outcome config service.ActivateTask object mask c s) (service_acts service.ActivateTask object mask other)
  acts_going service.ActivateTask object mask (inr own) = by (cases_eq object j)
    where
      by : (object ≡ j) ⊎ (object ≡ j → ⊥) → ActsWhereGoing (outcome config service.ActivateTask object mask c s)
      by (inl e) = where_going (outcome config service.ActivateTask object mask c s) (itself_going object mask (e ∙ sym own))
      by (inr n) = where_going (outcome config service.ActivateTask object mask c s) (service_acts service.ActivateTask object mask (ne_eqb object j n))
  acts_going service.ChainTask object mask which = chain_going object mask
  acts_going served object mask which = where_going (outcome config served object mask c s) (service_acts served object mask refl)

  pub acts_leaving : (served : Service) (object mask : ℕ) → (is_service served service.ChainTask && (object == j)) ≡ false
      → ActsWhereLeaving (outcome config served object mask c s)
  acts_leaving service.ActivateTask object mask is =
      on_outcome ActsWhereLeaving c s (decision config service.ActivateTask object mask c s) ((λ _. tt), (λ _. tt))
  acts_leaving service.ChainTask object mask is = where_leaving (outcome config service.ChainTask object mask c s) (service_acts service.ChainTask object mask is)
  acts_leaving served object mask is = where_leaving (outcome config served object mask c s) (service_acts served object mask refl)

  -- ---- settings

  abbrev Sets : Task → Type 0
  Sets k = set_between (task s j) k ≡ 0

  own_sets : (d : TaskChange) → is_quiet_change d ≡ true → c ≡ j → Sets (changed_task d (task s j))
  own_sets d is e =
      unready_sets (task s j) (changed_task d (task s j)) (changed_unready d (task s j) is (own_unready e)) (changed_events d (task s j) is)

  abbrev SetsAfter : ServiceOutcome → Type 0
  SetsAfter = IsAfter (λ (x : System). Sets (task x j))

  -- it is Suspended, and so has no frames
  abbrev IsBare : Task → Type 0
  IsBare k = (has_frames k.frames ≡ false) × (k.events ≤ (task s j).events)

  bare : (task s j).state ≡ mode.Suspended → IsBare (task s j)
  bare asleep = (ap has_frames (within (cases_lt j (length s.tasks))), omega arith)
    where
      within : (j < length s.tasks) ⊎ (length s.tasks ≤ j) → (task s j).frames ≡ []
      within (inl lt) = (subst (InState config j (task s j)) asleep (v.each j (subst (λ n. j < n) v.count lt)).in_state).1
      within (inr past) = ap (λ (k : Task). k.frames) (get_or_past s.tasks j sleeping_task past)

  -- behind a change of its caller, another one, it is so still
  bare_behind : (d : TaskChange) → (task s j).state ≡ mode.Suspended → IsBare (task (with_change c d s) j)
  bare_behind d asleep =
      at_task s c j (changed_task d (task s c)) IsBare (bare asleep)
      (λ e. absurd (not_suspended (task s j).state (subst (IsActive s) (sym e) active) asleep))

  activated_sets : (d : TaskChange) → is_quiet_change d ≡ true → (task s j).state ≡ mode.Suspended → Sets (task (activated_state (with_change c d s) j) j)
  activated_sets d is asleep =
      let behind = bare_behind d asleep in
      at_task (with_change c d s) j j (record (task (with_change c d s) j) { state = mode.Ready }) Sets
      (changed_kept j c s active Sets (not_set (task s j)) own_sets d is)
      (λ _. fresh_sets (task s j) (record (task (with_change c d s) j) { state = mode.Ready }) behind.0 behind.1)

  -- a task that chains itself
  chained_sets : c ≡ j → Sets (task (activated_state (with_change c change.End s) c) j)
  chained_sets e =
      at_task (with_change c change.End s) c j (record (task (with_change c change.End s) c) { state = mode.Ready }) Sets
      (changed_kept j c s active Sets (not_set (task s j)) own_sets change.End refl)
      (λ _. fresh_sets (task s j) (record (task (with_change c change.End s) c) { state = mode.Ready })
      (ap (λ (k : Task). has_frames k.frames) ended) (let none = ap (λ (k : Task). k.events) ended in omega (arith, none)))
    where
      ended : task (with_change c change.End s) c ≡ changed_task change.End (task s c)
      ended =
          get_or-set_same s.tasks c (changed_task change.End (task s c)) sleeping_task
          (subst (λ n. c < n) (sym v.count) (active_declared config s c v.count active))

  activate_sets : (object mask : ℕ) → object ≡ j → SetsAfter (outcome config service.ActivateTask object mask c s)
  activate_sets object mask e =
      on_outcome SetsAfter c s (decision config service.ActivateTask object mask c s) (
        λ asleep. subst (λ u. Sets (task (activated_state (with_change c (change.Answer E_OK) s) u) j)) (sym e)
            (activated_sets (change.Answer E_OK) refl (subst (λ u. (task s u).state ≡ mode.Suspended) e asleep)),
        λ _. planned j c s active Sets (not_set (task s j)) own_sets (plan (Some E_OS_LIMIT) (change.Answer E_OS_LIMIT) other.Nothing) refl,
      )

  chain_sets : (object mask : ℕ) → object ≡ j → SetsAfter (outcome config service.ChainTask object mask c s)
  chain_sets object mask e =
      on_outcome SetsAfter c s (decision config service.ChainTask object mask c s) (
        λ same. chained_sets (sym (eqb-true object c same) ∙ e),
        λ _. (
          λ asleep. subst (λ u. Sets (task (activated_state (with_change c change.End s) u) j)) (sym e)
              (activated_sets change.End refl (subst (λ u. (task s u).state ≡ mode.Suspended) e asleep)),
          λ _. planned j c s active Sets (not_set (task s j)) own_sets (plan (Some E_OS_LIMIT) (change.Answer E_OS_LIMIT) other.Nothing) refl,
        ),
      )

  pub service_sets : (served : Service) (object mask : ℕ) → (is_service served service.SetEvent && (object == j)) ≡ false → SetsAfter (outcome config served object mask c s)
  service_sets service.ActivateTask object mask is = by (cases_eq object j)
    where
      by : (object ≡ j) ⊎ (object ≡ j → ⊥) → SetsAfter (outcome config service.ActivateTask object mask c s)
      by (inl e) = activate_sets object mask e
      by (inr n) = activated_other j c s active Sets (not_set (task s j)) own_sets config object mask (ne_eqb object j n)
  service_sets service.ChainTask object mask is = by (cases_eq object j)
    where
      by : (object ≡ j) ⊎ (object ≡ j → ⊥) → SetsAfter (outcome config service.ChainTask object mask c s)
      by (inl e) = chain_sets object mask e
      by (inr n) = chained_other j c s active Sets (not_set (task s j)) own_sets config object mask (ne_eqb object j n)
  service_sets service.SetEvent object mask is = set_other j c s active Sets (not_set (task s j)) own_sets config object mask is
  service_sets served object mask is = tested j c s active Sets (not_set (task s j)) own_sets config served object mask refl

-- ---- events

-- a number of an event on task j's record, that is 0 where its item does not count
module _ (config : Config) (app : App) (t j : ℕ) (x : Stage) (k : Known config app x) (number : Task → Task → ℕ) (counted : Counted)
    (few : (old new : Task) → number old new ≤ 1) (same : (old : Task) → number old old ≡ 0)
    (alike : (u : ℕ) (new : Task) → IsActive x.found u → (new.state ≡ (task x.found u).state) → (new.events ≡ (task x.found u).events) → u ≡ j → number (task x.found j) new ≡ 0)
    (goes_on : (served : Service) (status : ℕ) (after : System) → IsServiceStep config app t served x.found (GoesOn status after)
    → is_going_counted counted (operation_at app (standing (task x.found t).frames)) ≡ false → number (task x.found j) (task after j) ≡ 0)
    (leaves_with : (served : Service) (after : System) → IsServiceStep config app t served x.found (Leaves after)
    → is_ending_counted counted (operation_at app (standing (task x.found t).frames)) ≡ false → number (task x.found j) (task after j) ≡ 0) where
  abbrev Going : Position → ℕ
  Going at = going_at (counted_weights counted app) at

  abbrev Ending : Position → ℕ
  Ending at = ending_at (counted_weights counted app) at

  by_test : (test : Bool) → (test ≡ false → number (task x.found j) (task x.next j) ≡ 0) → number (task x.found j) (task x.next j) ≤ one_if test
  by_test true n = few (task x.found j) (task x.next j)
  by_test false n = let zero = n refl in omega (arith, zero)

  by_going : (is_going_counted counted (operation_at app (standing (task x.found t).frames)) ≡ false → number (task x.found j) (task x.next j) ≡ 0)
      → number (task x.found j) (task x.next j) ≤ Going (standing (task x.found t).frames)
  by_going none =
      let le = by_test (is_going_counted counted (operation_at app (standing (task x.found t).frames))) none in
      let same = counted_going counted app (standing (task x.found t).frames) in
      omega (arith, le, same)

  by_ending : (is_ending_counted counted (operation_at app (standing (task x.found t).frames)) ≡ false → number (task x.found j) (task x.next j) ≡ 0)
      → number (task x.found j) (task x.next j) ≤ Ending (standing (task x.found t).frames)
  by_ending none =
      let le = by_test (is_ending_counted counted (operation_at app (standing (task x.found t).frames))) none in
      let same = counted_ending counted app (standing (task x.found t).frames) in
      omega (arith, le, same)

  item_fits : (e : Event) → OsekStep config app e x.found x.next
      → (is_executed t e ≡ true → number (task x.found j) (task x.next j) ≤ Going (standing (task x.found t).frames))
      × (is_left t e ≡ true → number (task x.found j) (task x.next j) ≤ Ending (standing (task x.found t).frames))
      × (is_back t e ≡ true → number (task x.found j) (task x.next j) ≤ 0)
  item_fits (event.Run u func item result) h = (
    λ is.
        let none : number (task x.found j) (task x.next j) ≡ 0 =
        subst (λ (y : System). number (task x.found j) (task y j) ≡ 0) (sym h.1.is)
        (at_task x.found u j (record (task x.found u) { registers = h.1.meant.registers; frames = h.1.meant.frames })
        (λ new. number (task x.found j) new ≡ 0) (same (task x.found j))
        (λ e. alike u (record (task x.found u) { registers = h.1.meant.registers; frames = h.1.meant.frames }) h.1.at.active refl refl (sym e))) in
        omega (arith, none),
    λ is. absurd (false≢true is),
    λ is. absurd (false≢true is),
  )
  item_fits (event.Call u served status) h = (
    λ is.
        let own = subst (λ v. OsekStep config app (event.Call v served status) x.found x.next) (eqb-true u t is) h in
        by_going (λ off. subst (λ (y : System). number (task x.found j) (task y j) ≡ 0) (sym own.1.2) (goes_on served status own.1.0 own.1.1 off)),
    λ is. absurd (false≢true is),
    λ is. absurd (false≢true is),
  )
  item_fits (event.Left u served) h = (
    λ is. absurd (false≢true is),
    λ is.
        let own = subst (λ v. OsekStep config app (event.Left v served) x.found x.next) (eqb-true u t is) h in
        by_ending (λ off. subst (λ (y : System). number (task x.found j) (task y j) ≡ 0) (sym own.1.2) (leaves_with served own.1.0 own.1.1 off)),
    λ is. absurd (false≢true is),
  )
  item_fits (event.Back u) h = (
    λ is. absurd (false≢true is),
    λ is. absurd (false≢true is),
    λ is.
        let none : number (task x.found j) (task x.next j) ≡ 0 =
        subst (λ (y : System). number (task x.found j) (task y j) ≡ 0) (sym h.4)
        (at_task x.found u j (record (task x.found u) { owed = false; raised = (declaration config u).non })
        (λ new. number (task x.found j) new ≡ 0) (same (task x.found j))
        (λ e. alike u (record (task x.found u) { owed = false; raised = (declaration config u).non }) h.2 refl refl (sym e))) in
        omega (arith, none),
  )
  item_fits event.Boot h = ((λ is. absurd (false≢true is)), (λ is. absurd (false≢true is)), (λ is. absurd (false≢true is)))
  item_fits e h = ((λ is. absurd (false≢true is)), (λ is. absurd (false≢true is)), (λ is. absurd (false≢true is)))

module _ (config : Config) (app : App) (t j : ℕ) (x : Stage) (k : Known config app x) where
  -- a test of the operation at which the task stands, that calls the service
  at_call : (test : Op → Bool) (served : Service) (answer : ServiceOutcome) (h : IsServiceStep config app t served x.found answer)
      → test (operation_at app (standing (task x.found t).frames)) ≡ test (op.Serve h.call)
  at_call test served answer h = ap (λ fs. test (operation_at app (standing fs))) h.at.frames ∙ ap test h.at.next

  -- the same of the service that is served
  calls_so : (s : Service) (served : Service) (answer : ServiceOutcome) (h : IsServiceStep config app t served x.found answer)
      → calls_for j s (op.Serve h.call) ≡ (is_service served s && (h.call.object == j))
  calls_so s served answer h = ap (λ w. is_service w s && (h.call.object == j)) h.same

  -- ---- activations

  abbrev Counts : Bool → Counted
  Counts own = cond own (counts.Chains j) (counts.Activations j)

  abbrev AfterActs : System → Type 0
  AfterActs y = activated_between (task x.found j) (task y j) ≡ 0

  acts_goes_on : (own : Bool) → (t == j) ≡ own → (served : Service) (status : ℕ) (after : System) (h : IsServiceStep config app t served x.found (GoesOn status after))
      → is_going_counted (Counts own) (operation_at app (standing (task x.found t).frames)) ≡ false → AfterActs after
  acts_goes_on own e served status after h off =
      subst (ActsWhereGoing config app j t x.found k.valid h.at.active) h.is
      (acts_going config app j t x.found k.valid h.at.active served h.call.object h.call.mask (by own e off))
    where
      by : (own : Bool) → (t == j) ≡ own → is_going_counted (Counts own) (operation_at app (standing (task x.found t).frames)) ≡ false
          → ((is_service served service.ActivateTask && (h.call.object == j)) ≡ false) ⊎ (t ≡ j)
      by true e off = inr (eqb-true t j e)
      by false e off =
          inl (sym (calls_so service.ActivateTask served (GoesOn status after) h) ∙ sym (at_call (is_going_counted (counts.Activations j)) served (GoesOn status after) h) ∙ off)

  acts_leaves_with : (own : Bool) (served : Service) (after : System) (h : IsServiceStep config app t served x.found (Leaves after))
      → is_ending_counted (Counts own) (operation_at app (standing (task x.found t).frames)) ≡ false → AfterActs after
  acts_leaves_with own served after h off =
      subst (ActsWhereLeaving config app j t x.found k.valid h.at.active) h.is
      (acts_leaving config app j t x.found k.valid h.at.active served h.call.object h.call.mask (by own off))
    where
      by : (own : Bool) → is_ending_counted (Counts own) (operation_at app (standing (task x.found t).frames)) ≡ false
          → (is_service served service.ChainTask && (h.call.object == j)) ≡ false
      by true off = sym (calls_so service.ChainTask served (Leaves after) h) ∙ sym (at_call (is_ending_counted (counts.Chains j)) served (Leaves after) h) ∙ off
      by false off =
          sym (calls_so service.ChainTask served (Leaves after) h)
          ∙ (or_parts (calls_for j service.ActivateTask (op.Serve h.call)) (calls_for j service.ChainTask (op.Serve h.call))
          (sym (at_call (is_ending_counted (counts.Activations j)) served (Leaves after) h) ∙ off)).1

  activates : FitsItem t (activated j) (going_at (activation_weights app t j)) (ending_at (activation_weights app t j)) x
  activates =
      let all = item_fits config app t j x k activated_between (Counts (t == j))
      (λ old new. at_most_one (not (is_ready_for false old) && is_ready_for false new)) not_activated
      (λ u new active state events e. unready_acts (task x.found j) new (ap is_ready state ∙ ap is_ready active))
      (acts_goes_on (t == j) refl) (acts_leaves_with (t == j)) x.stamped.event k.step in
      record { goes = all.0; leaves = all.1; returns = all.2 }

  -- ---- settings

  abbrev AfterSets : System → Type 0
  AfterSets y = set_between (task x.found j) (task y j) ≡ 0

  sets_after : (served : Service) (answer : ServiceOutcome) (h : IsServiceStep config app t served x.found answer)
      → calls_for j service.SetEvent (operation_at app (standing (task x.found t).frames)) ≡ false → IsAfter AfterSets answer
  sets_after served answer h off =
      subst (IsAfter AfterSets) h.is
      (service_sets config app j t x.found k.valid h.at.active served h.call.object h.call.mask
      (sym (calls_so service.SetEvent served answer h) ∙ sym (at_call (calls_for j service.SetEvent) served answer h) ∙ off))

  sets : FitsItem t (was_set j) (going_at (setting_weights app j)) (ending_at (setting_weights app j)) x
  sets =
      let all = item_fits config app t j x k set_between (counts.Settings j)
      (λ old new. at_most_one ((not (is_ready_for true old) && is_ready_for true new) || has_grown old.events new.events)) not_set
      (λ u new active state events e.
      unready_sets (task x.found j) new (ap is_ready state ∙ ap is_ready active)
      (let equal = events ∙ ap (λ v. (task x.found v).events) e in omega (arith, equal)))
      (λ served status after h off. sets_after served (GoesOn status after) h off) (λ served after h off. sets_after served (Leaves after) h off)
      x.stamped.event k.step in
      record { goes = all.0; leaves = all.1; returns = all.2 }

module _ (config : Config) (app : App) (events : List Stamped) (wf : WellFormed config app) (osek : OsekRun config app events) where
  known : AllByRecursion (Known config app) (run_stages config app events)
  known =
      stages_known config app (facts config app wf) 0 (opening config app) osek.0 events (opening_ordered config app) (opening_valid config app)
      (follows_leads config app [] (opening config app) events osek.0 osek.1)

pub items_activate : ItemsActivate
items_activate config app events t j wf osek =
    each_so (Known config app) (FitsItem t (activated j) (going_at (activation_weights app t j)) (ending_at (activation_weights app t j))) (activates config app t j)
    (run_stages config app events) (known config app events wf osek)

pub items_set : ItemsSet
items_set config app events t j wf osek =
    each_so (Known config app) (FitsItem t (was_set j) (going_at (setting_weights app j)) (ending_at (setting_weights app j))) (sets config app t j)
    (run_stages config app events) (known config app events wf osek)
