-- The cases of a law on one step of the scheduler: all kinds of events are gone through here, and a law gives what an event may do.
use Rattle.std.proofs.Common.{◌≡◌, ℕ, List, [], ◌∷◌, ◌<◌, Bool, true, false, length, get_or, Some, None, refl, sym, ap, subst}
use Rattle.sloth_base.specs.declared.config.Config.{Config}
use Rattle.sloth_base.specs.declared.app.App.{App}
use Rattle.sloth_base.specs.declared.service.Event.{Event}
use Rattle.sloth_base.specs.declared.service.Event.TheVariants as event
use Rattle.sloth_base.specs.declared.service.Service.{Service}
use Rattle.sloth_base.specs.Events.{admitted_line, entered_task}
use Rattle.sloth_base.specs.Named.{declaration}
use Rattle.sloth_base.specs.Owners.{counter_line}
use Rattle.osek_scheduler.specs.declared.state.TaskState.TheVariants as mode
use Rattle.osek_scheduler.specs.State.{Task, System, task, sleeping_task, with_task}
use Rattle.osek_scheduler.specs.Priority.{IsDue, NoTicks, IsNextTick}
use Rattle.osek_scheduler.specs.Services.{activated_state, started_task, entered_state, ticked_state, ServiceOutcome, GoesOn, Leaves}
use Rattle.osek_scheduler.specs.Steps.{OsekStep, IsServiceStep, settled_state, autostarted_tasks, due_state}
use Rattle.osek_scheduler.proofs.Apart.{at_task}
use Rattle.osek_scheduler.proofs.Outcomes.{by_suspended}
use Rattle.osek_scheduler.proofs.ServiceStates.{IsAfter}
use Rattle.sim_induction.specs.Spent.{turn_task}

-- the event of a service of task t with this outcome
abbrev pub outcome_event : (t : ℕ) → Service → ServiceOutcome → Event
outcome_event t served (GoesOn status after) = event.Call t served status
outcome_event t served (Leaves after) = event.Left t served

pub by_outcome : (P : Event → Type 0) (t : ℕ) (served : Service) → ((status : ℕ) → P (event.Call t served status)) → P (event.Left t served)
    → (answer : ServiceOutcome) → P (outcome_event t served answer)
by_outcome P t served call left (GoesOn status after) = call status
by_outcome P t served call left (Leaves after) = left

-- ---- what an event leaves of the record of task t

-- A fact R on it behind an event of which Q is known.
module _ (config : Config) (app : App) (t : ℕ) (Q : Event → Type 0) (R : Task → Type 0) (s : System) where
  abbrev entered : ℕ → Task
  entered u = record (started_task app u (task s u).frames (task s u)) { state = mode.Active; raised = (declaration config u).non }

  pub record RecordCases : Type 0 where
    -- where the event does not change it
    pub same : R (task s t)
    -- where the system starts
    pub boots : s.booted ≡ false → Q event.Boot → R (get_or (autostarted_tasks config.tasks s.tasks) t sleeping_task)
    -- where its arrival activates it
    pub activates : (task s t).state ≡ mode.Suspended → Q (event.Admit t) → R (record (task s t) { state = mode.Ready })
    -- where it is entered
    pub enters : (task s t).state ≡ mode.Ready → R (entered t)
    -- where it executes an item, or comes back
    pub works : (new : Task) → new.state ≡ (task s t).state → new.events ≡ (task s t).events → R new
    -- where a task calls a service
    pub serves : (u : ℕ) (served : Service) (answer : ServiceOutcome) → IsServiceStep config app u served s answer → Q (outcome_event u served answer)
        → IsAfter (λ x. R (task x t)) answer
    -- where a counter ticks
    pub ticks : (c : ℕ) → IsNextTick config s c → R (task (ticked_state config c s) t)

  pub record_behind : RecordCases → (e : Event) (next : System) → OsekStep config app e s next → Q e → R (task next t)
  record_behind c what next step known = by what step known
    where
      P : System → Type 0
      P x = R (task x t)

      by : (e : Event) → OsekStep config app e s next → Q e → P next
      by event.Boot h q = subst P (sym h.1) (c.boots h.0 q)
      by (event.Admit u) h q =
          subst P (sym h.2)
          (by_suspended (task s u).state (record (activated_state s u) { fresh = u ∷ s.fresh }) s P
          (λ asleep. at_task s u t (record (task s u) { state = mode.Ready }) R c.same
          (λ e. subst (λ v. R (record (task s v) { state = mode.Ready })) e
          (c.activates (subst (λ v. (task s v).state ≡ mode.Suspended) (sym e) asleep) (subst (λ v. Q (event.Admit v)) (sym e) q))))
          (λ _. c.same))
      by (event.Enter u) h q =
          subst P (sym h.4)
          (at_task s u t (entered u) R c.same (λ e. subst (λ v. R (entered v)) e (c.enters (subst (λ v. (task s v).state ≡ mode.Ready) (sym e) h.2))))
      by (event.Run u func item result) h q =
          subst P (sym h.1.is)
          (at_task s u t (record (task s u) { registers = h.1.meant.registers; frames = h.1.meant.frames }) R c.same
          (λ e. c.works (record (task s u) { registers = h.1.meant.registers; frames = h.1.meant.frames })
          (ap (λ v. (task s v).state) (sym e)) (ap (λ v. (task s v).events) (sym e))))
      by (event.Back u) h q =
          subst P (sym h.4)
          (at_task s u t (record (task s u) { owed = false; raised = (declaration config u).non }) R c.same
          (λ e. c.works (record (task s u) { owed = false; raised = (declaration config u).non })
          (ap (λ v. (task s v).state) (sym e)) (ap (λ v. (task s v).events) (sym e))))
      by (event.Call u served status) h q = subst P (sym h.1.2) (c.serves u served (GoesOn status h.1.0) h.1.1 q)
      by (event.Left u served) h q = subst P (sym h.1.2) (c.serves u served (Leaves h.1.0) h.1.1 q)
      by event.Idle h q = subst P (sym h.3) c.same
      by event.Stray h q = absurd h
      by (event.Due d) h q = subst P (sym h.2) c.same
      by (event.Tick d) h q = subst P (sym h.2) (c.ticks d h.1)

-- ---- what an event leaves of all but the tasks

-- A fact P on it behind an event of which Q is known.
module _ (config : Config) (app : App) (Q : Event → Type 0) (P : System → Type 0) (s : System) where
  pub record ClockCases : Type 0 where
    -- it does not look at tasks and data, or at what is fresh
    pub apart : (x : System) (tasks : List Task) (symbols : List (List ℕ)) (fresh : List ℕ) → P x → P (record x { tasks = tasks; symbols = symbols; fresh = fresh })
    -- where nothing else changes, but that the system has started
    pub same : (started : Bool) → started ≡ true → P (record s { booted = started })
    -- where a task calls a service
    pub serves : (t : ℕ) (served : Service) (answer : ServiceOutcome) → IsServiceStep config app t served s answer → P s → IsAfter P answer
    -- where a counter's line arrives
    pub dues : (c : ℕ) → Q (event.Due c) → P s → P (due_state c s)
    -- where a counter ticks
    pub ticks : (c : ℕ) → Q (event.Tick c) → P s → P (ticked_state config c s)

  pub clock_behind : ClockCases → (e : Event) (next : System) → OsekStep config app e s next → Q e → P next
  clock_behind c what next step known = by what step known
    where
      on : s.booted ≡ true → P s
      on is = c.same s.booted is

      -- all but the tasks as in this state
      settled : (x : System) (tasks : List Task) (symbols : List (List ℕ)) → P x → P (record x { tasks = tasks; symbols = symbols; fresh = [] })
      settled x tasks symbols h = c.apart x tasks symbols [] h

      by : (e : Event) → OsekStep config app e s next → Q e → P next
      by event.Boot h q = subst P (sym h.1) (settled (record s { booted = true }) (autostarted_tasks config.tasks s.tasks) s.symbols (c.same true refl))
      by (event.Admit t) h q =
          subst P (sym h.2)
          (by_suspended (task s t).state (record (activated_state s t) { fresh = t ∷ s.fresh }) s P
          (λ _. c.apart s (activated_state s t).tasks s.symbols (t ∷ s.fresh) (on h.0)) (λ _. on h.0))
      by (event.Enter t) h q = subst P (sym h.4) (settled s (entered_state config app t s).tasks s.symbols (on h.0))
      by (event.Run t func item result) h q =
          subst P (sym h.1.is)
          (settled s (with_task s t (record (task s t) { registers = h.1.meant.registers; frames = h.1.meant.frames })).tasks h.1.meant.symbols (on h.0))
      by (event.Back t) h q =
          subst P (sym h.4) (settled s (with_task s t (record (task s t) { owed = false; raised = (declaration config t).non })).tasks s.symbols (on h.0))
      by (event.Call t served status) h q =
          subst P (sym h.1.2) (settled h.1.0 h.1.0.tasks h.1.0.symbols (c.serves t served (GoesOn status h.1.0) h.1.1 (on h.0)))
      by (event.Left t served) h q = subst P (sym h.1.2) (settled h.1.0 h.1.0.tasks h.1.0.symbols (c.serves t served (Leaves h.1.0) h.1.1 (on h.0)))
      by event.Idle h q = subst P (sym h.3) (settled s s.tasks s.symbols (on h.0))
      by event.Stray h q = absurd h
      by (event.Due d) h q = subst P (sym h.2) (c.dues d q (on h.0))
      by (event.Tick d) h q = subst P (sym h.2) (settled (ticked_state config d s) (ticked_state config d s).tasks (ticked_state config d s).symbols (c.ticks d q (on h.0)))

-- ---- events that are no task's

-- the start, a look at an empty system, an arrival or a tick
pub data Outside (config : Config) (s next : System) (e : Event) : Type 0 where
  boot_event : e ≡ event.Boot → s.booted ≡ false → next ≡ settled_state (record s { tasks = autostarted_tasks config.tasks s.tasks; booted = true })
      → Outside config s next e
  idle_event : ((t : ℕ) → t < length config.tasks → ¬ (IsDue s t)) → NoTicks config s → next ≡ settled_state s → Outside config s next e
  arrival_event : (line : ℕ) → admitted_line e ≡ Some line → Outside config s next e
  tick_event : (c : ℕ) → e ≡ event.Tick c → Outside config s next e

-- none other is no task's
pub outside_of : (config : Config) (app : App) (e : Event) (s next : System) → OsekStep config app e s next → turn_task e ≡ None → entered_task e ≡ None
    → Outside config s next e
outside_of config app event.Boot s next h turn entry = boot_event refl h.0 h.1
outside_of config app event.Idle s next h turn entry = idle_event h.1 h.2 h.3
outside_of config app event.Stray s next h turn entry = absurd h
outside_of config app (event.Admit t) s next h turn entry = arrival_event t refl
outside_of config app (event.Due c) s next h turn entry = arrival_event (counter_line c) refl
outside_of config app (event.Tick c) s next h turn entry = tick_event c refl
outside_of config app e s next h turn entry = absurd cc
