-- What an event does to the tasks that it is not of, and that an event of a task does this.
use Rattle.std.proofs.Common.{◌≡◌, ℕ, ◌==◌, List, [], ◌∷◌, false, ◌||◌, length, get_or, refl, sym, ap, ◌∙◌, subst, is_some, true}
use Rattle.std.proofs.lemmas.Bool.{eqb-true, false_from_ne_true, false≢true}
use Rattle.sloth_base.specs.declared.config.Config.{Config}
use Rattle.sloth_base.specs.declared.app.App.{App}
use Rattle.sloth_base.specs.declared.service.Event.{Event}
use Rattle.sloth_base.specs.declared.service.Event.TheVariants as event
use Rattle.sloth_base.specs.declared.service.Service.{Service}
use Rattle.sloth_base.specs.Named.{declaration}
use Rattle.sloth_base.specs.Events.{named_task}
use Rattle.osek_scheduler.specs.declared.state.TaskState.TheVariants as mode
use Rattle.osek_scheduler.specs.State.{Task, System, sleeping_task, task}
use Rattle.code_rules.specs.Code.{is_in}
use Rattle.osek_scheduler.specs.Priority.{IsTop}
use Rattle.osek_scheduler.specs.Services.{activated_state, started_task, ServiceOutcome, GoesOn, Leaves}
use Rattle.osek_scheduler.proofs.ServiceStates.{IsAfter}
use Rattle.osek_scheduler.specs.Steps.{admitted_state, IsServiceStep, OsekStep}
use Rattle.osek_scheduler.specs.Apart.{IsActive, TasksAreApart}
use Rattle.osek_scheduler.proofs.Apart.{Same, Acts, admit_calm, enter_acts, run_acts, call_acts, left_acts, back_acts}
use Rattle.osek_scheduler.proofs.Outcomes.{by_suspended}
use Rattle.osek_blocking.proofs.Staying.{Stays, own, readied, outcome_stays}

-- task u is Ready
abbrev pub IsReady : System → ℕ → Type 0
IsReady s u = (task s u).state ≡ mode.Ready

-- what every event keeps: a record for each task of the configuration, and the order of the tasks that were entered
pub record Ordered (config : Config) (s : System) : Type 0 where
  pub count : length s.tasks ≡ length config.tasks
  pub apart : TasksAreApart config s

-- the same where the data change, or what is fresh
settled_stays : (t : ℕ) (s a b : System) → Stays t s a → b.tasks ≡ a.tasks → Stays t s b
settled_stays t s a b h same = record {
  count = ap length same ∙ h.count;
  ready = λ u n r. subst (λ (ts : List Task). (get_or ts u sleeping_task).state ≡ mode.Ready) (sym same) (h.ready u n r);
}

-- ---- effects

-- no task changed that is Ready or Active, and nothing is fresh any more
pub record Passes (config : Config) (s next : System) : Type 0 where
  pub count : length next.tasks ≡ length s.tasks
  pub same : (u : ℕ) → Same config u (task s u) (task next u)
  pub ready : (u : ℕ) → IsReady s u → IsReady next u
  pub settles : next.fresh ≡ []

-- no task changed that is Ready or Active, and of those that are Ready the same are fresh
pub record Admits (config : Config) (s next : System) : Type 0 where
  pub count : length next.tasks ≡ length s.tasks
  pub same : (u : ℕ) → Same config u (task s u) (task next u)
  pub ready : (u : ℕ) → IsReady s u → IsReady next u
  pub fresh : (u : ℕ) → IsReady s u → is_in u next.fresh ≡ is_in u s.fresh

-- task t, which is top but for these others, changed alone of those that are Ready or Active
pub record Moves (config : Config) (others : List ℕ) (t : ℕ) (s next : System) : Type 0 where
  pub acts : Acts config t s next
  pub stays : Stays t s next
  pub top : IsTop config s others t

-- the task becomes Active
pub record Enters (config : Config) (t : ℕ) (s next : System) : Type 0 where
  pub moves : Moves config [] t s next
  pub was : IsReady s t

-- it is Active and top
pub record Works (config : Config) (t : ℕ) (s next : System) : Type 0 where
  pub moves : Moves config [] t s next
  pub was : IsActive s t

-- it is Active and top but for the fresh ones
pub record Calls (config : Config) (t : ℕ) (s next : System) : Type 0 where
  pub moves : Moves config s.fresh t s next
  pub was : IsActive s t

-- what each event does
abbrev pub Effect : Config → System → System → Event → Type 0
Effect config s next (event.Admit t) = Admits config s next
Effect config s next (event.Enter t) = Enters config t s next
Effect config s next (event.Run t func item result) = Works config t s next
Effect config s next (event.Call t served status) = Calls config t s next
Effect config s next (event.Left t served) = Calls config t s next
Effect config s next (event.Back t) = Works config t s next
Effect config s next (event.Due c) = Admits config s next
Effect config s next _ = Passes config s next

-- ---- arrivals

module _ (config : Config) (t : ℕ) (s : System) where
  no_both : (u : ℕ) → IsReady s u → (task s u).state ≡ mode.Suspended → ⊥
  no_both u a b = clash (task s u).state a b
    where
      clash : (m : _) → m ≡ mode.Ready → m ≡ mode.Suspended → ⊥
      clash mode.Suspended a b = absurd cc
      clash mode.Ready a b = absurd cc
      clash mode.Active a b = absurd cc
      clash (mode.Waiting x) a b = absurd cc

  not_it : (u : ℕ) → IsReady s u → (task s t).state ≡ mode.Suspended → (t == u) ≡ false
  not_it u r asleep =
      false_from_ne_true _
      (λ h. no_both t (subst (λ v. (task s v).state ≡ mode.Ready) (sym (eqb-true t u h)) r) asleep)

  admits : Admits config s (admitted_state t s)
  admits = record {
    count =
        by_suspended (task s t).state (record (activated_state s t) { fresh = t ∷ s.fresh }) s (λ (x : System). length x.tasks ≡ length s.tasks)
        (λ _. (readied t s t).count) (λ _. refl);
    same = admit_calm config s t;
    ready =
        by_suspended (task s t).state (record (activated_state s t) { fresh = t ∷ s.fresh }) s (λ (x : System). (u : ℕ) → IsReady s u → IsReady x u)
        (λ asleep u r. (readied t s t).ready u (λ e. no_both t (subst (λ v. (task s v).state ≡ mode.Ready) e r) asleep) r) (λ _ u r. r);
    fresh =
        by_suspended (task s t).state (record (activated_state s t) { fresh = t ∷ s.fresh }) s
        (λ (x : System). (u : ℕ) → IsReady s u → is_in u x.fresh ≡ is_in u s.fresh)
        (λ asleep u r. ap (λ b. b || is_in u s.fresh) (not_it u r asleep)) (λ _ u r. refl);
  }

-- ---- the events of a task

module _ (config : Config) (app : App) (s next : System) (o : Ordered config s) where
  answer_stays : (t : ℕ) (served : Service) (answer : ServiceOutcome) → IsServiceStep config app t served s answer → IsAfter (Stays t s) answer
  answer_stays t served answer h = subst (IsAfter (Stays t s)) h.is (outcome_stays t config served h.call.object h.call.mask s)

  pub task_effect : (e : Event) → OsekStep config app e s next → is_some (named_task e) ≡ true → Effect config s next e
  task_effect (event.Admit t) h named = subst (Admits config s) (sym h.2) (admits config t s)
  task_effect (event.Enter t) h named = record {
    moves = record {
      acts = enter_acts config app t s next h;
      stays = subst (Stays t s) (sym h.4) (settled_stays t s _ _ (own t s (record (started_task app t (task s t).frames (task s t)) { state = mode.Active; raised = (declaration config t).non })) refl);
      top = h.1;
    };
    was = h.2;
  }
  task_effect (event.Run t func item result) h named = record {
    moves = record {
      acts = run_acts config app t func item result s next h o.apart;
      stays = subst (Stays t s) (sym h.1.is) (settled_stays t s _ _ (own t s (record (task s t) { registers = h.1.meant.registers; frames = h.1.meant.frames })) refl);
      top = h.1.top;
    };
    was = h.1.at.active;
  }
  task_effect (event.Call t served status) h named = record {
    moves = record {
      acts = call_acts config app t status served s next h o.apart;
      stays = subst (Stays t s) (sym h.1.2) (settled_stays t s _ _ (answer_stays t served (GoesOn status h.1.0) h.1.1) refl);
      top = h.1.1.top;
    };
    was = h.1.1.at.active;
  }
  task_effect (event.Left t served) h named = record {
    moves = record {
      acts = left_acts config app t served s next h o.apart;
      stays = subst (Stays t s) (sym h.1.2) (settled_stays t s _ _ (answer_stays t served (Leaves h.1.0) h.1.1) refl);
      top = h.1.1.top;
    };
    was = h.1.1.at.active;
  }
  task_effect (event.Back t) h named = record {
    moves = record {
      acts = back_acts config app t s next h o.apart;
      stays = subst (Stays t s) (sym h.4) (settled_stays t s _ _ (own t s (record (task s t) { owed = false; raised = (declaration config t).non })) refl);
      top = h.1;
    };
    was = h.2;
  }
  task_effect e h named = absurd (false≢true named)

-- ---- what each event keeps

module _ (config : Config) (s next : System) where
  pub kept_count : (e : Event) → Effect config s next e → length next.tasks ≡ length s.tasks
  kept_count (event.Enter t) f = f.moves.stays.count
  kept_count (event.Run t func item result) f = f.moves.stays.count
  kept_count (event.Call t served status) f = f.moves.stays.count
  kept_count (event.Left t served) f = f.moves.stays.count
  kept_count (event.Back t) f = f.moves.stays.count
  kept_count e f = f.count
