-- What an outcome keeps, from what the changes of its plan keep.
use Rattle.std.proofs.Common.{◌≡◌, refl, ℕ, ◌==◌, List, Bool, true, Option, Some, None, bit_and, bit_or}
use Rattle.std.proofs.lemmas.Bool.{cond_both, and_parts}
use Rattle.osek_scheduler.specs.declared.change.Other.{Other}
use Rattle.osek_scheduler.specs.declared.change.Other.TheVariants as other
use Rattle.osek_scheduler.specs.declared.change.Plan.{Plan}
use Rattle.osek_scheduler.specs.declared.state.Alarm.{Alarm}
use Rattle.osek_scheduler.specs.declared.state.TaskState.{TaskState}
use Rattle.osek_scheduler.specs.declared.state.TaskState.TheVariants as mode
use Rattle.osek_scheduler.specs.State.{Task, System, task, with_task, with_alarm}
use Rattle.osek_scheduler.specs.Services.{if_suspended, activated_state, woken_state, with_events, set_events, ServiceOutcome}
use Rattle.osek_scheduler.proofs.ServiceStates.{IsAfter}
use Rattle.osek_scheduler.specs.Changes.{changed_task, with_change}
use Rattle.osek_scheduler.specs.Outcomes.{with_other, planned_system, shown_outcome, Decision, Does, IfSuspended, If, plan_in, outcome_of}
use Rattle.osek_scheduler.proofs.AllPlans.{OnPlans, all_plans}

pub by_suspended : {X : Type 0} (m : TaskState) (first second : X) (P : X → Type 0) → (m ≡ mode.Suspended → P first) → ((m ≡ mode.Suspended → ⊥) → P second)
    → P (if_suspended m first second)
by_suspended mode.Suspended first second P f g = f refl
by_suspended mode.Ready first second P f g = g (λ e. cc)
by_suspended mode.Active first second P f g = g (λ e. cc)
by_suspended (mode.Waiting mask) first second P f g = g (λ e. cc)

-- ---- plans that may be taken

module _ (s : System) (P : Plan → Type 0) where
  -- what is so of every plan
  pub on_all : ((p : Plan) → P p) → (d : Decision) → OnPlans s P d
  on_all h (Does p) = h p
  on_all h (IfSuspended t first second) = (λ _. on_all h first, λ _. on_all h second)
  on_all h (If test first second) = (λ _. on_all h first, λ _. on_all h second)

  -- what is so of every plan that passes a test
  pub on_tested : (test : Plan → Bool) → ((p : Plan) → test p ≡ true → P p) → (d : Decision) → all_plans test d ≡ true → OnPlans s P d
  on_tested test h (Does p) e = h p e
  on_tested test h (IfSuspended t first second) e =
      let both = and_parts (all_plans test first) (all_plans test second) e in
      (λ _. on_tested test h first both.0, λ _. on_tested test h second both.1)
  on_tested test h (If b first second) e =
      let both = and_parts (all_plans test first) (all_plans test second) e in
      (λ _. on_tested test h first both.0, λ _. on_tested test h second both.1)

  -- what is so of the plans that may be taken is so of the one that is
  pub on_taken : (d : Decision) → OnPlans s P d → P (plan_in s d)
  on_taken (Does p) h = h
  on_taken (IfSuspended t first second) h =
      by_suspended (task s t).state (plan_in s first) (plan_in s second) P (λ e. on_taken first (h.0 e)) (λ n. on_taken second (h.1 n))
  on_taken (If test first second) h =
      cond_both test (plan_in s first) (plan_in s second) P (λ e. on_taken first (h.0 e)) (λ n. on_taken second (h.1 n))

-- a fact on the outcome of each plan that may be taken is one on the outcome
pub on_outcome : (R : ServiceOutcome → Type 0) (c : ℕ) (s : System) (d : Decision) → OnPlans s (λ p. R (shown_outcome p.answer (planned_system c p s))) d → R (outcome_of c s d)
on_outcome R c s (Does p) h = h
on_outcome R c s (IfSuspended t first second) h =
    by_suspended (task s t).state (outcome_of c s first) (outcome_of c s second) R (λ e. on_outcome R c s first (h.0 e)) (λ n. on_outcome R c s second (h.1 n))
on_outcome R c s (If test first second) h =
    cond_both test (outcome_of c s first) (outcome_of c s second) R (λ e. on_outcome R c s first (h.0 e)) (λ n. on_outcome R c s second (h.1 n))

pub shown_after : (P : System → Type 0) (answer : Option ℕ) (after : System) → P after → IsAfter P (shown_outcome answer after)
shown_after P (Some status) after h = h
shown_after P None after h = h

-- ---- what is done besides

-- a fact that an activation, a setting of events, a change of the data and the setting of an alarm keep
pub record KeptByOthers (P : System → Type 0) : Type 0 where
  pub activates : (s : System) (t : ℕ) → P s → P (activated_state s t)
  pub sets : (s : System) (t events : ℕ) → P s → P (with_events s t events)
  pub stores : (s : System) (symbols : List (List ℕ)) → P s → P (record s { symbols = symbols })
  pub sets_alarms : (s : System) (a : ℕ) (new : Alarm) → P s → P (with_alarm s a new)

module _ (P : System → Type 0) (k : KeptByOthers P) where
  woken_keeps : (m : TaskState) (events t : ℕ) (s : System) → P s → P (woken_state m events t s)
  woken_keeps mode.Suspended events t s h = h
  woken_keeps mode.Ready events t s h = h
  woken_keeps mode.Active events t s h = h
  woken_keeps (mode.Waiting mask) events t s h =
      cond_both (bit_and events mask == 0) s (activated_state s t) P (λ _. h) (λ _. k.activates s t h)

  pub sets_keep : (s : System) (t mask : ℕ) → P s → P (set_events t mask s)
  sets_keep s t mask h =
      let events = bit_or (task s t).events mask in
      woken_keeps (task s t).state events t (with_events s t events) (k.sets s t events h)

  pub others_keep : (o : Other) (s : System) → P s → P (with_other o s)
  others_keep other.Nothing s h = h
  others_keep (other.Activate t) s h = k.activates s t h
  others_keep (other.AddEvents t mask) s h = sets_keep s t mask h
  others_keep (other.Store y w offset value) s h = k.stores s _ h
  others_keep (other.SetAlarm a left cycle) s h = k.sets_alarms s a (record { left = left; cycle = cycle }) h

  -- an outcome keeps what the changes of its caller keep
  pub outcome_keeps : (c : ℕ) (s : System) (d : Decision) → OnPlans s (λ p. P (with_change c p.change s)) d → IsAfter P (outcome_of c s d)
  outcome_keeps c s (Does p) h = shown_after P p.answer (planned_system c p s) (others_keep p.other (with_change c p.change s) h)
  outcome_keeps c s (IfSuspended t first second) h =
      by_suspended (task s t).state (outcome_of c s first) (outcome_of c s second) (IsAfter P) (λ e. outcome_keeps c s first (h.0 e))
      (λ n. outcome_keeps c s second (h.1 n))
  outcome_keeps c s (If test first second) h =
      cond_both test (outcome_of c s first) (outcome_of c s second) (IsAfter P) (λ e. outcome_keeps c s first (h.0 e)) (λ n. outcome_keeps c s second (h.1 n))

  -- an outcome keeps what each change of its caller keeps
  pub outcome_keeps_all : (c : ℕ) (s : System) → ((new : Task) → P (with_task s c new)) → (d : Decision) → IsAfter P (outcome_of c s d)
  outcome_keeps_all c s own d = outcome_keeps c s d (on_all s (λ p. P (with_change c p.change s)) (λ p. own (changed_task p.change (task s c))) d)
