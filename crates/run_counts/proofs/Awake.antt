-- A task is Active from its entry until it leaves.
use Rattle.std.proofs.Common.{◌≡◌, ℕ, ◌==◌, ◌&&◌, ◌||◌, Bool, true, false, cond, is_none, refl, sym, ap, ◌∙◌, ◌<◌, subst, Option, Some, None, bit_and, bit_or}
use Rattle.std.proofs.lemmas.Bool.{false≢true, true≢false, eq-eqb, eqb-true, and_parts}
use Rattle.std.proofs.lemmas.List.{get_or-set_same}
use Rattle.sloth_base.specs.declared.config.Action.{Action}
use Rattle.sloth_base.specs.declared.config.Action.TheVariants as action
use Rattle.sloth_base.specs.declared.config.Config.{Config}
use Rattle.sloth_base.specs.declared.app.App.{App}
use Rattle.sloth_base.specs.declared.service.Event.{Event}
use Rattle.sloth_base.specs.declared.service.Event.TheVariants as event
use Rattle.sloth_base.specs.declared.service.Service.{Service}
use Rattle.sloth_base.specs.declared.service.Service.TheVariants as service
use Rattle.sloth_base.specs.Status.{E_OK, E_OS_LIMIT}
use Rattle.sloth_base.specs.Named.{declaration, alarm_declaration}
use Rattle.osek_scheduler.specs.declared.change.TaskChange.{TaskChange}
use Rattle.osek_scheduler.specs.declared.change.TaskChange.TheVariants as change
use Rattle.osek_scheduler.specs.declared.change.Other.{Other}
use Rattle.osek_scheduler.specs.declared.change.Other.TheVariants as other
use Rattle.osek_scheduler.specs.declared.change.Plan.{Plan}
use Rattle.osek_scheduler.specs.declared.state.TaskState.{TaskState}
use Rattle.osek_scheduler.specs.declared.state.TaskState.TheVariants as mode
use Rattle.osek_scheduler.specs.State.{Task, System, sleeping_task, task}
use Rattle.osek_scheduler.specs.Changes.{changed_task, with_change}
use Rattle.osek_scheduler.specs.Services.{activated_state, woken_state, with_events, set_events, acted_state, started_task, ServiceOutcome, GoesOn, Leaves}
use Rattle.osek_scheduler.specs.Outcomes.{plan, decision, outcome, with_other, planned_system, shown_outcome}
use Rattle.osek_scheduler.specs.Steps.{OsekStep, IsServiceStep}
use Rattle.osek_scheduler.specs.Valid.{IsValid}
use Rattle.osek_scheduler.specs.Apart.{IsActive}
use Rattle.osek_scheduler.proofs.Apart.{at_task}
use Rattle.osek_scheduler.proofs.Outcomes.{by_suspended, on_outcome, on_tested}
use Rattle.osek_scheduler.proofs.ServiceStates.{IsAfter}
use Rattle.osek_scheduler.proofs.Ticking.{ticked_keeps}
use Rattle.run_counts.specs.Rounds.{is_left}
use Rattle.run_counts.specs.Stages.{is_entry}
use Rattle.run_counts.proofs.States.{not_suspended, not_waiting}
use Rattle.run_counts.proofs.StepCases.{outcome_event, record_behind}

-- a change that leaves its task Active
abbrev is_awake : TaskChange → Bool
is_awake change.Activate = false
is_awake change.End = false
is_awake (change.Wait mask) = false
is_awake (change.AddEvents mask) = false
is_awake c = true

changed_awake : (c : TaskChange) (k : Task) → is_awake c ≡ true → k.state ≡ mode.Active → (changed_task c k).state ≡ mode.Active
changed_awake change.Activate k is h = absurd (false≢true is)
changed_awake change.End k is h = absurd (false≢true is)
changed_awake (change.Wait mask) k is h = absurd (false≢true is)
changed_awake (change.AddEvents mask) k is h = absurd (false≢true is)
changed_awake (change.Start func words non) k is h = refl
changed_awake (change.Resume non) k is h = refl
changed_awake c k is h = h

-- it activates no task
abbrev is_no_activation : Other → Bool
is_no_activation (other.Activate t) = false
is_no_activation o = true

-- a plan that activates none, and where its caller goes on leaves it Active
abbrev is_calm : Plan → Bool
is_calm p = is_no_activation p.other && (is_none p.answer || is_awake p.change)

module _ (t : ℕ) where
  abbrev Awake : System → Type 0
  Awake x = (task x t).state ≡ mode.Active

  activated_awake : (u : ℕ) (x : System) → (task x u).state ≡ mode.Suspended → Awake x → Awake (activated_state x u)
  activated_awake u x asleep h =
      at_task x u t (record (task x u) { state = mode.Ready }) (λ k. k.state ≡ mode.Active) h
      (λ e. absurd (not_suspended (task x u).state (subst Awake_at e h) asleep))
    where
      Awake_at : ℕ → Type 0
      Awake_at v = (task x v).state ≡ mode.Active

  away_awake : (u : ℕ) (x : System) → (u ≡ t → ⊥) → Awake x → Awake (activated_state x u)
  away_awake u x n h = at_task x u t (record (task x u) { state = mode.Ready }) (λ k. k.state ≡ mode.Active) h (λ e. absurd (n (sym e)))

  set_awake : (u mask : ℕ) (x : System) → Awake x → Awake (set_events u mask x)
  set_awake u mask x h = woken (task x u).state refl
    where
      set : Awake (with_events x u (bit_or (task x u).events mask))
      set =
          at_task x u t (record (task x u) { events = bit_or (task x u).events mask }) (λ k. k.state ≡ mode.Active) h
          (λ e. let P : ℕ → Type 0 = λ w. (task x w).state ≡ mode.Active in subst P e h)

      woken : (m : TaskState) → (task x u).state ≡ m → Awake (woken_state m (bit_or (task x u).events mask) u (with_events x u (bit_or (task x u).events mask)))
      woken mode.Suspended e = set
      woken mode.Ready e = set
      woken mode.Active e = set
      woken (mode.Waiting awaited) e = by (bit_and (bit_or (task x u).events mask) awaited == 0)
        where
          away : (u ≡ t) → ⊥
          away same = not_waiting (task x u).state awaited (let P : ℕ → Type 0 = λ w. (task x w).state ≡ mode.Active in subst P (sym same) h) e

          by : (b : Bool) → Awake (cond b (with_events x u (bit_or (task x u).events mask)) (activated_state (with_events x u (bit_or (task x u).events mask)) u))
          by true = set
          by false = away_awake u (with_events x u (bit_or (task x u).events mask)) away set

  others_awake : (o : Other) (x : System) → is_no_activation o ≡ true → Awake x → Awake (with_other o x)
  others_awake other.Nothing x is h = h
  others_awake (other.Activate u) x is h = absurd (false≢true is)
  others_awake (other.AddEvents u mask) x is h = set_awake u mask x h
  others_awake (other.Store y w offset value) x is h = h
  others_awake (other.SetAlarm a left cycle) x is h = h

  module _ (c : ℕ) (s : System) (active : Awake s) where
    -- where its caller leaves, so does no other
    abbrev StaysSo : ServiceOutcome → Type 0
    StaysSo (GoesOn status after) = Awake after
    StaysSo (Leaves after) = (c ≡ t → ⊥) → Awake after

    changed : (d : TaskChange) → (c ≡ t → is_awake d ≡ true) → Awake (with_change c d s)
    changed d is =
        at_task s c t (changed_task d (task s c)) (λ k. k.state ≡ mode.Active) active
        (λ e. changed_awake d (task s c) (is (sym e)) (let P : ℕ → Type 0 = λ w. (task s w).state ≡ mode.Active in subst P e active))

    calm_planned : (p : Plan) → is_calm p ≡ true → StaysSo (shown_outcome p.answer (planned_system c p s))
    calm_planned p is =
        let both = and_parts (is_no_activation p.other) (is_none p.answer || is_awake p.change) is in
        by p.answer both.0 both.1
      where
        by : (answer : Option ℕ) → is_no_activation p.other ≡ true → (is_none answer || is_awake p.change) ≡ true → StaysSo (shown_outcome answer (planned_system c p s))
        by (Some status) none awake = others_awake p.other (with_change c p.change s) none (changed p.change (λ _. awake))
        by None none awake = λ n. others_awake p.other (with_change c p.change s) none (changed p.change (λ e. absurd (n e)))

    -- a Suspended task is not t, and so behind any change of the caller
    asleep_away : (u : ℕ) → (task s u).state ≡ mode.Suspended → (u ≡ t → ⊥)
    asleep_away u asleep e = not_suspended (task s t).state active (let P : ℕ → Type 0 = λ w. (task s w).state ≡ mode.Suspended in subst P e asleep)

    service_awake : (config : Config) (served : Service) (object mask : ℕ) → StaysSo (outcome config served object mask c s)
    service_awake config service.ActivateTask object mask =
        on_outcome StaysSo c s (decision config service.ActivateTask object mask c s) (
          λ asleep. away_awake object (with_change c (change.Answer E_OK) s) (asleep_away object asleep) (changed (change.Answer E_OK) (λ _. refl)),
          λ _. calm_planned (plan (Some E_OS_LIMIT) (change.Answer E_OS_LIMIT) other.Nothing) refl,
        )
    service_awake config service.ChainTask object mask =
        on_outcome StaysSo c s (decision config service.ChainTask object mask c s) (
          λ same n. away_awake c (with_change c change.End s) n (changed change.End (λ e. absurd (n e))),
          λ _. (
            λ asleep n. away_awake object (with_change c change.End s) (asleep_away object asleep) (changed change.End (λ e. absurd (n e))),
            λ _. calm_planned (plan (Some E_OS_LIMIT) (change.Answer E_OS_LIMIT) other.Nothing) refl,
          ),
        )
    service_awake config served object mask =
        on_outcome StaysSo c s (decision config served object mask c s)
        (on_tested s (λ p. StaysSo (shown_outcome p.answer (planned_system c p s))) is_calm calm_planned (decision config served object mask c s) refl)

  acted_awake : (does : Action) (x : System) → Awake x → Awake (acted_state does x)
  acted_awake (action.Activate u) x h =
      by_suspended (task x u).state (activated_state x u) x Awake (λ asleep. activated_awake u x asleep h) (λ _. h)
  acted_awake (action.Set u mask) x h = by_suspended (task x u).state x (set_events u mask x) Awake (λ _. h) (λ _. set_awake u mask x h)

module _ (config : Config) (app : App) (t : ℕ) where
  called : (u : ℕ) (served : Service) (s : System) (answer : ServiceOutcome) → IsServiceStep config app u served s answer → (active : IsActive s t) → StaysSo t u s active answer
  called u served s answer h active = subst (StaysSo t u s active) h.is (service_awake t u s active config served h.call.object h.call.mask)

  pub stays_active : (e : Event) (s next : System) → OsekStep config app e s next → IsValid config app s → is_left t e ≡ false → IsActive s t → IsActive next t
  stays_active e s next step v away active =
      record_behind config app t (λ what. is_left t what ≡ false) (λ k. k.state ≡ mode.Active) s
      (record {
        same = active;
        boots = λ off _. absurd (not_suspended (task s t).state active (v.asleep off t));
        activates = λ asleep _. absurd (not_suspended (task s t).state active asleep);
        enters = λ _. refl;
        works = λ new same _. same ∙ active;
        serves = λ u served answer h. behind u served answer (called u served s answer h active);
        ticks = λ c tick.
            ticked_keeps (λ (x : System). IsActive x t) config
            (record { counts = λ x d lt h. h; leaves = λ x a left h. h; acts = λ x a lt h. acted_awake t (alarm_declaration config a).action x h }) s c tick.declared active;
      })
      e next step away
    where
      behind : (u : ℕ) (served : Service) (answer : ServiceOutcome) → StaysSo t u s active answer → is_left t (outcome_event u served answer) ≡ false
          → IsAfter (λ (x : System). IsActive x t) answer
      behind u served (GoesOn status after) h stays = h
      behind u served (Leaves after) h stays = h (λ e. true≢false (sym (eq-eqb u t e) ∙ stays))

  -- an entry leaves it Active
  pub entry_active : (e : Event) (s next : System) → OsekStep config app e s next → IsValid config app s → is_entry t e ≡ true → IsActive next t
  entry_active (event.Enter u) s next step v is =
      let there : OsekStep config app (event.Enter t) s next = subst (λ k. OsekStep config app (event.Enter k) s next) (eqb-true u t is) step in
      let new = record (started_task app t (task s t).frames (task s t)) { state = mode.Active; raised = (declaration config t).non } in
      let placed_new : task next t ≡ new =
      ap (λ (y : System). task y t) there.4 ∙ get_or-set_same s.tasks t new sleeping_task (subst (λ n. t < n) (sym v.count) there.1.declared) in
      ap (λ (k : Task). k.state) placed_new
  entry_active e s next step v is = absurd (false≢true is)
