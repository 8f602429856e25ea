-- With which events a task may be raised.
use Rattle.std.proofs.Common.{◌≡◌, ℕ, ◌≤◌, List, [], ◌∷◌, Bool, true, false, cond, max, map, refl, sym, subst, arith}
use Rattle.std.proofs.lemmas.Bool.{false≢true}
use Rattle.sloth_base.specs.declared.config.Config.{Config}
use Rattle.sloth_base.specs.declared.app.App.{App}
use Rattle.sloth_base.specs.declared.service.Service.{Service}
use Rattle.sloth_base.specs.declared.service.Service.TheVariants as service
use Rattle.sloth_base.specs.ServiceCodes.{is_service}
use Rattle.code_rules.specs.Code.{without_last}
use Rattle.osek_scheduler.specs.declared.change.TaskChange.{TaskChange}
use Rattle.osek_scheduler.specs.declared.change.TaskChange.TheVariants as change
use Rattle.osek_scheduler.specs.declared.change.Plan.{Plan}
use Rattle.osek_scheduler.specs.declared.state.TaskState.TheVariants as mode
use Rattle.osek_scheduler.specs.State.{Task, System, task}
use Rattle.osek_scheduler.specs.Priority.{ceiling, greatest, highest_priority}
use Rattle.osek_scheduler.specs.Changes.{changed_task, with_change}
use Rattle.osek_scheduler.specs.Outcomes.{decision, outcome}
use Rattle.osek_scheduler.specs.Services.{ServiceOutcome}
use Rattle.osek_scheduler.specs.Steps.{IsServiceStep}
use Rattle.osek_scheduler.specs.Apart.{priority_of, static_priority}
use Rattle.osek_scheduler.proofs.Apart.{at_task}
use Rattle.osek_scheduler.proofs.Outcomes.{on_tested, KeptByOthers, outcome_keeps}
use Rattle.osek_scheduler.proofs.ServiceStates.{IsAfter}

-- ---- a change of its own

fewer_held : (config : Config) (held : List ℕ) → greatest (map (ceiling config) (without_last held)) ≤ greatest (map (ceiling config) held)
fewer_held config [] = omega arith
fewer_held config (r ∷ []) = omega arith
fewer_held config (r ∷ q ∷ held) = let rest = fewer_held config (q ∷ held) in omega (arith, rest)

-- a change with which no task takes a resource or its internal one
abbrev pub is_no_raise : TaskChange → Bool
is_no_raise (change.Take resource) = false
is_no_raise (change.Start func words non) = false
is_no_raise (change.Resume non) = false
is_no_raise (change.ComeBack non) = false
is_no_raise c = true

module _ (config : Config) (t : ℕ) where
  fewer : (k : Task) (held : List ℕ) (raised : Bool) → greatest (map (ceiling config) held) ≤ greatest (map (ceiling config) k.held)
      → cond raised (highest_priority config) 0 ≤ cond k.raised (highest_priority config) 0
      → max (static_priority config t) (max (greatest (map (ceiling config) held)) (cond raised (highest_priority config) 0)) ≤ priority_of config t k
  fewer k held raised le less = omega (arith, le, less)

  changed_no_higher : (c : TaskChange) (k : Task) → is_no_raise c ≡ true → priority_of config t (changed_task c k) ≤ priority_of config t k
  changed_no_higher (change.Take resource) k is = absurd (false≢true is)
  changed_no_higher (change.Start func words non) k is = absurd (false≢true is)
  changed_no_higher (change.Resume non) k is = absurd (false≢true is)
  changed_no_higher (change.ComeBack non) k is = absurd (false≢true is)
  changed_no_higher change.End k is = fewer k k.held false (omega arith) (omega arith)
  changed_no_higher (change.Wait mask) k is = fewer k k.held false (omega arith) (omega arith)
  changed_no_higher change.Pause k is = fewer k k.held false (omega arith) (omega arith)
  changed_no_higher change.Release k is = fewer k (without_last k.held) k.raised (fewer_held config k.held) (omega arith)
  changed_no_higher c k is = omega arith

-- ---- a service

module _ (config : Config) (t : ℕ) (s : System) where
  -- the current priority of the task is no higher than in state s
  abbrev NoHigher : System → Type 0
  NoHigher x = priority_of config t (task x t) ≤ priority_of config t (task s t)

  besides : KeptByOthers NoHigher
  besides = record {
    activates = λ x u h.
        at_task x u t (record (task x u) { state = mode.Ready }) (λ k. priority_of config t k ≤ priority_of config t (task s t)) h
        (λ e. let P : ℕ → Type 0 = λ v. priority_of config t (task x v) ≤ priority_of config t (task s t) in subst P e h);
    sets = λ x u events h.
        at_task x u t (record (task x u) { events = events }) (λ k. priority_of config t k ≤ priority_of config t (task s t)) h
        (λ e. let P : ℕ → Type 0 = λ v. priority_of config t (task x v) ≤ priority_of config t (task s t) in subst P e h);
    stores = λ x symbols h. h;
    sets_alarms = λ x a new h. h;
  }

  changed : (p : Plan) → is_no_raise p.change ≡ true → NoHigher (with_change t p.change s)
  changed p is =
      at_task s t t (changed_task p.change (task s t)) (λ k. priority_of config t k ≤ priority_of config t (task s t)) (omega arith)
      (λ _. changed_no_higher config t p.change (task s t) is)

  -- a service but GetResource does not raise its caller
  served_no_higher : (served : Service) (object mask : ℕ) → is_service served service.GetResource ≡ false → IsAfter NoHigher (outcome config served object mask t s)
  served_no_higher service.GetResource object mask other = absurd (false≢true (sym other))
  served_no_higher served object mask other =
      outcome_keeps NoHigher besides t s (decision config served object mask t s)
      (on_tested s (λ p. NoHigher (with_change t p.change s)) (λ p. is_no_raise p.change) changed (decision config served object mask t s) refl)

  pub called_no_higher : (app : App) (served : Service) (answer : ServiceOutcome) → IsServiceStep config app t served s answer
      → is_service served service.GetResource ≡ false → IsAfter NoHigher answer
  called_no_higher app served answer h other = subst (IsAfter NoHigher) h.is (served_no_higher served h.call.object h.call.mask other)
