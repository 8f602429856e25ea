-- The events of a run with the states around them, and the counts that each task spends.
use Rattle.std.specs.Prelude.{ℕ, ◌+◌, ◌-◌, List, [], ◌∷◌, cond, Option, Some, None}
use Rattle.sloth_base.specs.declared.config.Config.{Config}
use Rattle.sloth_base.specs.declared.app.App.{App}
use Rattle.sloth_base.specs.declared.service.Event.{Event}
use Rattle.sloth_base.specs.declared.service.Stamped.{Stamped}
use Rattle.osek_scheduler.specs.State.{System, opening}
use Rattle.osek_scheduler.specs.InTime.{is_admit}
use Rattle.osek_scheduler.specs.Next.{next_state}
pub use Rattle.sim_induction.specs.Spent.{turn_task, is_turn, is_entry, is_running}

-- ---- stages

-- An event, the state that it finds and the one behind it, and the first count behind the events before it, admits left out.
pub record Stage : Type 0 where
  pub start : ℕ
  pub found : System
  pub stamped : Stamped
  pub next : System

-- the state, or where there is none this one
abbrev pub state_or : System → Option System → System
state_or s None = s
state_or s (Some next) = next

-- the state behind an event; where the event may not come, the state is as it was
unfoldable pub state_behind : Config → App → Event → System → System
state_behind config app e s = state_or s (next_state config app e s)

-- the first count behind the events up to this one
abbrev pub end_of : Stage → ℕ
end_of x = cond (is_admit x.stamped) x.start (x.stamped.stamp.at + 1)

-- how many counts stand between the events before this one and its own; they show no event. An admit has none of its own.
abbrev pub unseen : Stage → ℕ
unseen x = cond (is_admit x.stamped) 0 (x.stamped.stamp.from - x.start)

-- how many counts the event spans
abbrev pub spanned : Stage → ℕ
spanned x = cond (is_admit x.stamped) 0 (x.stamped.stamp.at + 1 - x.stamped.stamp.from)

-- both
abbrev pub charged : Stage → ℕ
charged x = cond (is_admit x.stamped) 0 (x.stamped.stamp.at + 1 - x.start)

-- The counts of this stage that are task t's own: those that show no event, where it runs, and those of an event of a turn of it. An entry, a tick
-- and boot are no task's.
abbrev pub own : Config → (t : ℕ) → Stage → ℕ
own config t x = cond (is_running config x.found t) (unseen x) 0 + cond (is_turn t x.stamped.event) (spanned x) 0

-- an event that finds state s, where the events before it end before count `start`
abbrev pub stage : Config → App → (start : ℕ) → System → Stamped → Stage
stage config app start s e = record { start = start; found = s; stamped = e; next = state_behind config app e.event s }

-- the stages of events, of which the first finds state s
abbrev pub stages : Config → App → (start : ℕ) → System → List Stamped → List Stage
stages config app start s [] = []
stages config app start s (e ∷ events) =
    stage config app start s e ∷ stages config app (end_of (stage config app start s e)) (state_behind config app e.event s) events

-- those of a run
abbrev pub run_stages : Config → App → List Stamped → List Stage
run_stages config app events = stages config app 0 (opening config app) events
