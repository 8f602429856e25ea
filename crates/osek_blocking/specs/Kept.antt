-- What a bound promises of a list of events.
use Rattle.std.specs.Prelude.{ℕ, ◌+◌, ◌≤◌, ◌≡◌, ltb, List, [], ◌∷◌, ◌++◌, Bool, false, cond, Option, Some, None}
use Rattle.sloth_base.specs.declared.config.Config.{Config}
use Rattle.sloth_base.specs.declared.app.App.{App}
use Rattle.sloth_base.specs.declared.service.Stamped.{Stamped}
use Rattle.osek_scheduler.specs.State.{System, opening}
use Rattle.osek_scheduler.specs.Runs.{AreStepsTo}
use Rattle.osek_scheduler.specs.Apart.{static_priority}
use Rattle.sloth_base.specs.Events.{working_task}
use Rattle.osek_blocking.specs.Blocking.{events_up_to_entry, MakesReady}
use Rattle.osek_blocking.specs.Sections.{IsBound}

-- there is a task, and it is of lower static priority than h
abbrev pub is_lower : Config → (h : ℕ) → Option ℕ → Bool
is_lower config h None = false
is_lower config h (Some t) = ltb (static_priority config t) (static_priority config h)

-- how many of these are `run` and `call` events of tasks of lower static priority than h
abbrev pub lower_events : Config → (h : ℕ) → List Stamped → ℕ
lower_events config h [] = 0
lower_events config h (e ∷ events) = cond (is_lower config h (working_task e.event)) 1 0 + lower_events config h events

-- from each event that makes a task h Ready up to its `enter` there are at most as many of these as the bound of h
abbrev pub KeepsBounds : Config → App → List Stamped → Type 0
KeepsBounds config app events =
    (before behind : List Stamped) (made : Stamped) (h b : ℕ) (found s : System) → events ≡ before ++ made ∷ behind
    → AreStepsTo config app before (opening config app) found → MakesReady config app h made.event found s
    → IsBound config app h b → lower_events config h (events_up_to_entry h behind) ≤ b
