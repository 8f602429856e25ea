-- How many counts a bound promises at most.
use Rattle.std.specs.Prelude.{ℕ, ◌+◌, ◌-◌, ◌*◌, ◌≤◌, ◌≡◌, List, [], ◌∷◌, ◌++◌, cond}
use Rattle.sloth_base.specs.declared.config.Config.{Config}
use Rattle.sloth_base.specs.declared.app.App.{App}
use Rattle.sloth_base.specs.declared.service.Stamped.{Stamped}
use Rattle.osek_scheduler.specs.State.{System, opening}
use Rattle.osek_scheduler.specs.InTime.{is_admit}
use Rattle.osek_scheduler.specs.Runs.{AreStepsTo}
use Rattle.sloth_base.specs.Events.{working_task}
use Rattle.sloth_base.specs.Limits.{item_counts}
use Rattle.osek_blocking.specs.Blocking.{events_up_to_entry, MakesReady}
use Rattle.osek_blocking.specs.Sections.{IsBound}
use Rattle.osek_blocking.specs.Kept.{is_lower}
use Rattle.osek_blocking.specs.Pace.{last_count}

-- The counts of the `run` and `call` events of tasks lower than h, and those between each of them and the event before it, admits left
-- out: from behind the last count of that event to the event's own last count. `at` is the last count of the events before.
abbrev pub spent_counts : Config → (h at : ℕ) → List Stamped → ℕ
spent_counts config h at [] = 0
spent_counts config h at (e ∷ events) =
    cond (is_lower config h (working_task e.event)) (e.stamp.at - at) 0 + spent_counts config h (cond (is_admit e) at e.stamp.at) events

-- from each event that makes a task h Ready up to its `enter` at most as many items' counts as its bound are spent on lower tasks
abbrev pub KeepsCounts : Config → App → List Stamped → Type 0
KeepsCounts config app events =
    (before behind : List Stamped) (made : Stamped) (h b : ℕ) (found s : System) → events ≡ before ++ made ∷ behind
    → AreStepsTo config app before (opening config app) found → MakesReady config app h made.event found s
    → IsBound config app h b → spent_counts config h (last_count 0 (before ++ made ∷ [])) (events_up_to_entry h behind) ≤ item_counts * b
