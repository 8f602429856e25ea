-- Runs of the abstract scheduler.
use Rattle.std.specs.Prelude.{ℕ, ◌<◌, ◌≡◌, List, [], ◌∷◌, ◌++◌, length, IfSome}
use Rattle.sloth_base.specs.declared.config.Config.{Config}
use Rattle.sloth_base.specs.declared.app.App.{App}
use Rattle.sloth_base.specs.declared.service.Event.{Event}
use Rattle.sloth_base.specs.declared.service.Event.TheVariants as event
use Rattle.sloth_base.specs.declared.service.Stamped.{Stamped}
use Rattle.sloth_base.specs.Events.{served_task}
use Rattle.osek_scheduler.specs.declared.state.TaskState.TheVariants as mode
use Rattle.osek_scheduler.specs.State.{System, task, opening}
use Rattle.osek_scheduler.specs.Priority.{rank}
use Rattle.osek_scheduler.specs.Steps.{OsekStep, admitted_state}

-- these events, one after the other, lead from s to `end`
abbrev pub AreStepsTo : Config → App → List Stamped → System → System → Type 0
AreStepsTo config app [] s end = end ≡ s
AreStepsTo config app (e ∷ events) s end = (next : System) × OsekStep config app e.event s next × AreStepsTo config app events next end

-- An admit of a moment behind k made the Suspended task u Ready, and u has been Ready since.
pub record ReadySince (config : Config) (app : App) (past : List Stamped) (u k : ℕ) : Type 0 where
  pub before : List Stamped
  pub admit : Stamped
  pub behind : List Stamped
  pub is : past ≡ before ++ admit ∷ behind
  pub admits : admit.event ≡ event.Admit u
  pub later : k < admit.stamp.at
  pub found : System
  pub leads : AreStepsTo config app before (opening config app) found
  pub suspended : (task found u).state ≡ mode.Suspended
  pub since : (front rest : List Stamped) (s : System) → behind ≡ front ++ rest → AreStepsTo config app front (admitted_state u found) s → (task s u).state ≡ mode.Ready

-- each Ready task above t was made so by an arrival while the stretch from count k on was running
abbrev pub PassesOver : Config → App → List Stamped → System → ℕ → ℕ → Type 0
PassesOver config app past s t k =
    (u : ℕ) → u < length config.tasks → (task s u).state ≡ mode.Ready → rank config s t < rank config s u → ReadySince config app past u k

-- a service may pass over an arrival only in the stretch that was already running
abbrev pub PassesOverArrivals : Config → App → List Stamped → System → ℕ → Event → Type 0
PassesOverArrivals config app past s k e = IfSome (served_task e) (λ t. PassesOver config app past s t k)

-- behind the events `past`, which led to s, these events lead on to `end`
abbrev pub AreStepsBehind : Config → App → List Stamped → System → List Stamped → System → Type 0
AreStepsBehind config app past s [] end = end ≡ s
AreStepsBehind config app past s (e ∷ events) end =
    (next : System) × OsekStep config app e.event s next × PassesOverArrivals config app past s e.stamp.from e.event
    × AreStepsBehind config app (past ++ e ∷ []) next events end

-- the events are a run of the abstract scheduler
abbrev pub OsekRun : Config → App → List Stamped → Type 0
OsekRun config app events = (end : System) × AreStepsBehind config app [] (opening config app) events end
