-- Tasks that are Active at once, and the bytes that the basic ones among them need on one stack.
use Rattle.std.specs.Prelude.{ℕ, ◌<◌, ◌≤◌, ◌≡◌, List, Bool, true, cond, length, get_or}
use Rattle.sloth_base.specs.declared.config.Config.{Config}
use Rattle.sloth_base.specs.declared.app.App.{App}
use Rattle.sloth_base.specs.declared.service.Event.{Event}
use Rattle.sloth_base.specs.declared.service.Stamped.{Stamped}
use Rattle.sloth_base.specs.declared.limits.Bounds.{Bounds}
use Rattle.code_rules.specs.WellFormed.{WellFormed}
use Rattle.stack_bounds.specs.Bounds.{IsBasic, ReachesSchedule, MayBePreempted, AreBounds}
use Rattle.call_graph.specs.Tables.{sum_below}
use Rattle.osek_scheduler.specs.State.{System, opening, task}
use Rattle.osek_scheduler.specs.Steps.{OsekStep}
use Rattle.osek_scheduler.specs.Runs.{AreStepsTo}
use Rattle.osek_scheduler.specs.Valid.{IsValid}
use Rattle.osek_scheduler.specs.Apart.{IsActive, IsOver}

-- a task owes a `back` only where it reaches a Schedule
abbrev pub OwesBySchedule : App → System → Type 0
OwesBySchedule app s = (t : ℕ) → (task s t).owed ≡ true → ReachesSchedule app t

-- ---- the laws

-- each event keeps that
abbrev pub StepsKeepOwing : Type 0
StepsKeepOwing = (config : Config) (app : App) (event : Event) (s next : System)
    → WellFormed config app → OsekStep config app event s next → IsValid config app s → OwesBySchedule app s → OwesBySchedule app next

-- an Active task over which another could be entered may be preempted
abbrev pub LowerMayBePreempted : Type 0
LowerMayBePreempted = (config : Config) (app : App) (s : System) (t u : ℕ) → IsValid config app s → OwesBySchedule app s
    → t < length config.tasks → u < length config.tasks → IsActive s t → IsOver config s u t → MayBePreempted config app t

-- the bytes of the tasks that were chosen
abbrev pub chosen_bytes : Config → Bounds → (ℕ → Bool) → ℕ
chosen_bytes config bounds chosen = sum_below (length config.tasks) (λ t. cond (chosen t) (get_or bounds.bytes t 0) 0)

-- In each state that events lead to: whichever basic tasks are chosen that are Active, together they need no more than the shared stack.
abbrev pub SharedStackHolds : Type 0
SharedStackHolds = (config : Config) (app : App) (bounds : Bounds) (events : List Stamped) (end : System)
    → WellFormed config app → AreBounds config app bounds → AreStepsTo config app events (opening config app) end
    → (chosen : ℕ → Bool) → ((t : ℕ) → chosen t ≡ true → IsBasic config t × IsActive end t)
    → chosen_bytes config bounds chosen ≤ bounds.shared
