-- Blocking: which events of lower tasks stand between the one that makes a task Ready and its entry (OSEK OS 2.2.3, section 8).
use Rattle.std.specs.Prelude.{ℕ, ◌<◌, ◌≤◌, ◌≡◌, ◌⊎◌, List, [], ◌∷◌, ◌++◌, Bool, true, cond, length, Some}
use Rattle.sloth_base.specs.declared.config.Config.{Config}
use Rattle.sloth_base.specs.declared.app.App.{App}
use Rattle.sloth_base.specs.declared.service.Event.{Event}
use Rattle.sloth_base.specs.declared.service.Stamped.{Stamped}
use Rattle.sloth_base.specs.Events.{working_task, is_call}
use Rattle.sloth_base.specs.Events.{entered_task}
use Rattle.sloth_base.specs.Options.{is_number}
use Rattle.osek_scheduler.specs.declared.state.TaskState.TheVariants as mode
use Rattle.osek_scheduler.specs.State.{System, task, opening}
use Rattle.code_rules.specs.Code.{is_in}
use Rattle.osek_scheduler.specs.Steps.{OsekStep}
use Rattle.osek_scheduler.specs.Runs.{AreStepsTo}
use Rattle.osek_scheduler.specs.Apart.{priority_of, static_priority}

-- ---- events

-- the event is the `enter` of task h
abbrev pub is_entry_of : (h : ℕ) → Event → Bool
is_entry_of h e = is_number h (entered_task e)

-- the events in front of the first `enter` of task h, or all where there is none
abbrev pub events_up_to_entry : (h : ℕ) → List Stamped → List Stamped
events_up_to_entry h [] = []
events_up_to_entry h (e ∷ events) = cond (is_entry_of h e.event) [] (e ∷ events_up_to_entry h events)

-- the event makes task h Ready, which was not Ready before it
pub record MakesReady (config : Config) (app : App) (h : ℕ) (made : Event) (found next : System) : Type 0 where
  pub declared : h < length config.tasks
  pub step : OsekStep config app made found next
  pub not_before : ¬ ((task found h).state ≡ mode.Ready)
  pub behind : (task next h).state ≡ mode.Ready

-- ---- blocking

-- a `run` or `call` event of task u, whose static priority is below that of task h
pub record IsOfLower (config : Config) (h : ℕ) (e : Event) (u : ℕ) : Type 0 where
  pub works : working_task e ≡ Some u
  pub lower : static_priority config u < static_priority config h

-- the current priority of task u is at least the static priority of task h
abbrev pub IsRaisedTo : Config → System → (u h : ℕ) → Type 0
IsRaisedTo config found u h = static_priority config h ≤ priority_of config u (task found u)

-- a `call` that finds task h among those that were admitted since the last event of another kind: its stretch may already have been running
abbrev pub FindsFresh : Event → System → (h : ℕ) → Type 0
FindsFresh e found h = (is_call e ≡ true) × (is_in h found.fresh ≡ true)

-- All `run` and `call` events of lower tasks among these, which begin in state s, are of task b. Each finds b's current priority at least the
-- static priority of h, except a `call` that finds h fresh.
pub record IsBlockedBy (config : Config) (app : App) (h : ℕ) (s : System) (events : List Stamped) (b : ℕ) : Type 0 where
  pub of_one : (front rest : List Stamped) (e : Stamped) (u : ℕ) → events ≡ front ++ e ∷ rest → IsOfLower config h e.event u → u ≡ b
  pub raised : (front rest : List Stamped) (e : Stamped) (u : ℕ) (found : System) → events ≡ front ++ e ∷ rest → IsOfLower config h e.event u
      → AreStepsTo config app front s found → IsRaisedTo config found u h ⊎ FindsFresh e.event found h

-- From each event that makes a task Ready up to its `enter`, one task of lower priority at most blocks it.
abbrev pub BlocksOnce : Config → App → List Stamped → Type 0
BlocksOnce config app events =
    (before behind : List Stamped) (made : Stamped) (h : ℕ) (found s : System) → events ≡ before ++ made ∷ behind
    → AreStepsTo config app before (opening config app) found → MakesReady config app h made.event found s
    → (b : ℕ) × IsBlockedBy config app h s (events_up_to_entry h behind) b
