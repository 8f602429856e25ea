-- What an event does to the mask of a task's events.
use Rattle.std.proofs.Common.{◌≡◌, ℕ, ◌-◌, ◌<◌, ◌≤◌, ◌⊎◌, ◌==◌, ◌&&◌, ◌||◌, List, [], ◌∷◌, length, not, Bool, true, false, cond, is_none, max, refl, sym, ap, ◌∙◌, subst, arith, inl, inr, Option, Some, None, bit_and, bit_or}
use Rattle.std.proofs.lemmas.Bool.{cases_eq, false≢true, true≢false, eqb-false, eq-eqb, ne_eqb}
use Rattle.std.specs.Int.{bit_at}
use Rattle.std.proofs.lemmas.Nat.Bits.{bit_at_or, same_from_bits}
use Rattle.std.proofs.Math.Nat.{le-max_left, max-eq_left, max-eq_right}
use Rattle.sloth_base.specs.declared.config.Action.{Action}
use Rattle.sloth_base.specs.declared.config.Action.TheVariants as action
use Rattle.sloth_base.specs.declared.config.Config.{Config}
use Rattle.sloth_base.specs.declared.app.App.{App}
use Rattle.sloth_base.specs.declared.service.Event.{Event}
use Rattle.sloth_base.specs.declared.service.Event.TheVariants as event
use Rattle.sloth_base.specs.declared.service.Service.{Service}
use Rattle.sloth_base.specs.declared.service.Service.TheVariants as service
use Rattle.sloth_base.specs.Named.{declaration, alarm_declaration}
use Rattle.osek_scheduler.specs.declared.change.TaskChange.{TaskChange}
use Rattle.osek_scheduler.specs.declared.change.TaskChange.TheVariants as change
use Rattle.osek_scheduler.specs.declared.change.Other.{Other}
use Rattle.osek_scheduler.specs.declared.change.Other.TheVariants as other
use Rattle.osek_scheduler.specs.declared.change.Plan.{Plan}
use Rattle.osek_scheduler.specs.declared.state.TaskState.{TaskState}
use Rattle.osek_scheduler.specs.declared.state.TaskState.TheVariants as mode
use Rattle.osek_scheduler.specs.State.{Frame, Task, System, sleeping_task, task}
use Rattle.std.proofs.lemmas.List.{get_or-set_same}
use Rattle.osek_scheduler.specs.Changes.{changed_task, with_change}
use Rattle.osek_scheduler.specs.Services.{activated_state, woken_state, with_events, set_events, acted_state, started_task, ServiceOutcome, GoesOn, Leaves}
use Rattle.osek_scheduler.specs.Outcomes.{decision, outcome, with_other, planned_system, shown_outcome}
use Rattle.osek_scheduler.specs.Steps.{OsekStep}
use Rattle.osek_scheduler.proofs.Apart.{at_task}
use Rattle.osek_scheduler.proofs.Outcomes.{by_suspended, on_all, on_outcome, on_tested, shown_after}
use Rattle.osek_scheduler.proofs.ServiceStates.{IsAfter}
use Rattle.osek_scheduler.proofs.Steps.{autostarted_at}
use Rattle.osek_scheduler.proofs.Ticking.{ticked_keeps}
use Rattle.run_counts.specs.Stages.{is_turn}
use Rattle.run_counts.proofs.StepCases.{outcome_event, by_outcome, record_behind}
use Rattle.response_laws.specs.Turns.{has_grown}

-- ---- masks

pub or_same : (a : ℕ) → bit_or a a ≡ a
or_same a = same_from_bits (bit_or a a) a (λ i. bit_at_or a a i ∙ max-eq_left (omega arith))

-- one that has all of another has it still with more
pub or_more : (a e m : ℕ) → bit_or a e ≡ e → bit_or a (bit_or e m) ≡ bit_or e m
or_more a e m has =
    same_from_bits (bit_or a (bit_or e m)) (bit_or e m)
    (λ i.
    let whole = bit_at_or a (bit_or e m) i in
    let part = bit_at_or e m i in
    let own : bit_at e i ≡ max (bit_at a i) (bit_at e i) = sym (ap (λ v. bit_at v i) has) ∙ bit_at_or a e i in
    whole ∙ by (bit_at a i) (bit_at e i) (bit_at m i) (bit_at (bit_or e m) i) own part)
  where
    by : (x y z b : ℕ) → y ≡ max x y → b ≡ max y z → max x b ≡ b
    by x y z b own part =
        let le : x ≤ y = subst (λ v. x ≤ v) (sym own) (le-max_left x y) in
        let more : y ≤ b = subst (λ v. y ≤ v) (sym part) (le-max_left y z) in
        max-eq_right (omega (arith, le, more))

-- where a mask that has all of another has not grown, it is that
pub same_mask : (old new : ℕ) → bit_or old new ≡ new → has_grown old new ≡ false → new ≡ old
same_mask old new has none = by (cases_eq new old)
  where
    by : (new ≡ old) ⊎ (new ≡ old → ⊥) → new ≡ old
    by (inl e) = e
    by (inr n) =
        absurd (true≢false
        (sym (ap (λ b. b && not (new == old)) (eq-eqb (bit_or old new) new has) ∙ ap (λ b. not b) (ne_eqb new old n)) ∙ none))

module _ (t : ℕ) (old : ℕ) where
  abbrev Has : Task → Type 0
  Has k = bit_or old k.events ≡ k.events

  abbrev Kept : System → Type 0
  Kept x = Has (task x t)

  activated_kept : (u : ℕ) (x : System) → Kept x → Kept (activated_state x u)
  activated_kept u x h =
      at_task x u t (record (task x u) { state = mode.Ready }) Has h (λ e. let P : ℕ → Type 0 = λ w. Has (task x w) in subst P e h)

  set_kept : (u mask : ℕ) (x : System) → Kept x → Kept (set_events u mask x)
  set_kept u mask x h = woken (task x u).state
    where
      set : Kept (with_events x u (bit_or (task x u).events mask))
      set =
          at_task x u t (record (task x u) { events = bit_or (task x u).events mask }) Has h
          (λ e. or_more old (task x u).events mask (let P : ℕ → Type 0 = λ w. Has (task x w) in subst P e h))

      woken : (m : TaskState) → Kept (woken_state m (bit_or (task x u).events mask) u (with_events x u (bit_or (task x u).events mask)))
      woken mode.Suspended = set
      woken mode.Ready = set
      woken mode.Active = set
      woken (mode.Waiting awaited) = by (bit_and (bit_or (task x u).events mask) awaited == 0)
        where
          by : (b : Bool) → Kept (cond b (with_events x u (bit_or (task x u).events mask)) (activated_state (with_events x u (bit_or (task x u).events mask)) u))
          by true = set
          by false = activated_kept u (with_events x u (bit_or (task x u).events mask)) set

  others_kept : (o : Other) (x : System) → Kept x → Kept (with_other o x)
  others_kept other.Nothing x h = h
  others_kept (other.Activate u) x h = activated_kept u x h
  others_kept (other.AddEvents u mask) x h = set_kept u mask x h
  others_kept (other.Store y w offset value) x h = h
  others_kept (other.SetAlarm a left cycle) x h = h

  acted_kept : (does : Action) (x : System) → Kept x → Kept (acted_state does x)
  acted_kept (action.Activate u) x h = by_suspended (task x u).state (activated_state x u) x Kept (λ _. activated_kept u x h) (λ _. h)
  acted_kept (action.Set u mask) x h = by_suspended (task x u).state x (set_events u mask x) Kept (λ _. h) (λ _. set_kept u mask x h)

  -- a service of another task
  other_service : (c : ℕ) (s : System) → (c ≡ t → ⊥) → Kept s → (config : Config) (served : Service) (object mask : ℕ)
      → IsAfter Kept (outcome config served object mask c s)
  other_service c s n h config served object mask =
      on_outcome (IsAfter Kept) c s (decision config served object mask c s)
      (on_all s (λ p. IsAfter Kept (shown_outcome p.answer (planned_system c p s)))
      (λ p. shown_after Kept p.answer (planned_system c p s)
      (others_kept p.other (with_change c p.change s) (at_task s c t (changed_task p.change (task s c)) Has h (λ e. absurd (n (sym e))))))
      (decision config served object mask c s))

-- ---- a service of the task itself

-- a change that leaves its task's mask as it is
abbrev is_maskless : TaskChange → Bool
is_maskless (change.AddEvents mask) = false
is_maskless change.End = false
is_maskless (change.ClearEvents mask) = false
is_maskless c = true

changed_mask : (c : TaskChange) (k : Task) → is_maskless c ≡ true → (changed_task c k).events ≡ k.events
changed_mask (change.AddEvents mask) k is = absurd (false≢true is)
changed_mask change.End k is = absurd (false≢true is)
changed_mask (change.ClearEvents mask) k is = absurd (false≢true is)
changed_mask c k is = refl

-- a plan with an answer leaves it
abbrev leaves_mask : Plan → Bool
leaves_mask p = is_none p.answer || is_maskless p.change

module _ (t : ℕ) (s : System) where
  abbrev Own : System → Type 0
  Own x = Has t (task s t).events (task x t)

  -- where it goes on
  abbrev IfOn : (System → Type 0) → ServiceOutcome → Type 0
  IfOn P (GoesOn status after) = P after
  IfOn P (Leaves after) = Unit {0}

  own_planned : (p : Plan) → leaves_mask p ≡ true → IfOn Own (shown_outcome p.answer (planned_system t p s))
  own_planned p is = by p.answer is
    where
      by : (answer : Option ℕ) → (is_none answer || is_maskless p.change) ≡ true → IfOn Own (shown_outcome answer (planned_system t p s))
      by None is = tt
      by (Some status) is =
          others_kept t (task s t).events p.other (with_change t p.change s)
          (at_task s t t (changed_task p.change (task s t)) (Has t (task s t).events) (or_same (task s t).events)
          (λ _. ap (bit_or (task s t).events) (changed_mask p.change (task s t) is) ∙ or_same (task s t).events ∙ sym (changed_mask p.change (task s t) is)))

  own_service : (config : Config) (served : Service) (object mask : ℕ) → (served ≡ service.ClearEvent → ⊥) → IfOn Own (outcome config served object mask t s)
  own_service config service.ClearEvent object mask n = absurd (n refl)
  own_service config served object mask n =
      on_outcome (IfOn Own) t s (decision config served object mask t s)
      (on_tested s (λ p. IfOn Own (shown_outcome p.answer (planned_system t p s))) leaves_mask own_planned (decision config served object mask t s) refl)

-- ---- events

module _ (config : Config) (app : App) (t : ℕ) where
  -- an event of no turn of the task takes nothing from its mask
  pub others_grow : (e : Event) (s next : System) → OsekStep config app e s next → is_turn t e ≡ false → bit_or (task s t).events (task next t).events ≡ (task next t).events
  others_grow e s next step away =
      record_behind config app t (λ what. is_turn t what ≡ false) (Has t (task s t).events) s
      (record {
        same = own;
        boots = λ _ _. autostarted_at (Has t (task s t).events) config.tasks s.tasks t own own;
        activates = λ _ _. own;
        enters = λ _. started (task s t).frames;
        works = λ new _ same. subst (λ v. bit_or (task s t).events v ≡ v) (sym same) own;
        serves = λ u served answer h other.
            subst (IsAfter (Kept t (task s t).events)) h.is
            (other_service t (task s t).events u s (eqb-false u t (sym (turn_of u served answer) ∙ other)) own config served h.call.object h.call.mask);
        ticks = λ c tick.
            ticked_keeps (Kept t (task s t).events) config
            (record { counts = λ x d lt h. h; leaves = λ x a left h. h; acts = λ x a lt h. acted_kept t (task s t).events (alarm_declaration config a).action x h }) s c
            tick.declared own;
      })
      e next step away
    where
      own : bit_or (task s t).events (task s t).events ≡ (task s t).events
      own = or_same (task s t).events

      started : (fs : List Frame) → Has t (task s t).events (started_task app t fs (task s t))
      started [] = own
      started (frame ∷ outer) = own

      turn_of : (u : ℕ) (served : Service) (answer : ServiceOutcome) → is_turn t (outcome_event u served answer) ≡ (u == t)
      turn_of u served answer = by_outcome (λ what. is_turn t what ≡ (u == t)) u served (λ _. refl) refl answer

  -- nor does a service of it but ClearEvent, behind which it goes on
  pub own_grows : (served : Service) (status : ℕ) (s next : System) → OsekStep config app (event.Call t served status) s next → (served ≡ service.ClearEvent → ⊥)
      → bit_or (task s t).events (task next t).events ≡ (task next t).events
  own_grows served status s next step n =
      subst (λ (x : System). Own t s x) (sym step.1.2)
      (subst (IfOn t s (Own t s)) step.1.1.is (own_service t s config served step.1.1.call.object step.1.1.call.mask n))

  -- a ClearEvent of it
  pub own_clears : (status : ℕ) (s next : System) (step : OsekStep config app (event.Call t service.ClearEvent status) s next) → t < length s.tasks
      → (task next t).events ≡ bit_and (task s t).events (4294967295 - step.1.1.call.mask)
  own_clears status s next step lt =
      subst (λ (x : System). (task x t).events ≡ bit_and (task s t).events (4294967295 - step.1.1.call.mask)) (sym step.1.2)
      (subst (IfOn t s (λ (x : System). (task x t).events ≡ bit_and (task s t).events (4294967295 - step.1.1.call.mask))) step.1.1.is
      (ap (λ (k : Task). k.events) (get_or-set_same s.tasks t (changed_task (change.ClearEvents step.1.1.call.mask) (task s t)) sleeping_task lt)))

  -- an instruction of it, and its way back
  pub own_runs : (func item result : ℕ) (s next : System) → OsekStep config app (event.Run t func item result) s next → (task next t).events ≡ (task s t).events
  own_runs func item result s next step =
      subst (λ (x : System). (task x t).events ≡ (task s t).events) (sym step.1.is)
      (at_task s t t (record (task s t) { registers = step.1.meant.registers; frames = step.1.meant.frames }) (λ k. k.events ≡ (task s t).events) refl (λ _. refl))

  pub own_back : (s next : System) → OsekStep config app (event.Back t) s next → (task next t).events ≡ (task s t).events
  own_back s next step =
      subst (λ (x : System). (task x t).events ≡ (task s t).events) (sym step.4)
      (at_task s t t (record (task s t) { owed = false; raised = (declaration config t).non }) (λ k. k.events ≡ (task s t).events) refl (λ _. refl))
