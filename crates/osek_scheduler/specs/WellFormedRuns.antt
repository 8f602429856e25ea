-- Laws of systems with well-formed task code.
use Rattle.std.specs.Prelude.{ℕ, ◌<◌, ◌≡◌, ◌⊎◌, List, [], true, false, length, Some, None}
use Rattle.sloth_base.specs.declared.config.Config.{Config}
use Rattle.sloth_base.specs.declared.app.App.{App}
use Rattle.sloth_base.specs.declared.app.Call.{Call}
use Rattle.sloth_base.specs.declared.app.Op.{Op}
use Rattle.sloth_base.specs.declared.app.Op.TheVariants as op
use Rattle.sloth_base.specs.declared.service.Event.{Event}
use Rattle.sloth_base.specs.declared.service.Stamped.{Stamped}
use Rattle.code_rules.specs.WellFormed.{WellFormed}
use Rattle.osek_scheduler.specs.State.{System, opening, task}
use Rattle.osek_scheduler.specs.Priority.{IsTop}
use Rattle.sloth_base.specs.Events.{admitted_line}
use Rattle.osek_scheduler.specs.Meaning.{ItemMeaning, meaning}
use Rattle.osek_scheduler.specs.Steps.{IsAt, OsekStep}
use Rattle.osek_scheduler.specs.Runs.{AreStepsTo}
use Rattle.osek_scheduler.specs.Valid.{IsValid}
use Rattle.osek_scheduler.specs.Apart.{TasksAreApart, HasExclusion, IsActive}
use Rattle.osek_scheduler.specs.Tidy.{IsTidy}

-- before the system has started it is valid
abbrev pub OpeningIsValid : Type 0
OpeningIsValid = (config : Config) (app : App) → IsValid config app (opening config app) × TasksAreApart config (opening config app)

-- with well-formed task code each event keeps a state valid
abbrev pub StepsKeepValid : Type 0
StepsKeepValid = (config : Config) (app : App) (event : Event) (s next : System)
    → WellFormed config app → OsekStep config app event s next → IsValid config app s → IsValid config app next

-- with a record for each task of the configuration each event keeps the order of the tasks that were entered
abbrev pub StepsKeepApart : Type 0
StepsKeepApart = (config : Config) (app : App) (event : Event) (s next : System)
    → OsekStep config app event s next → length s.tasks ≡ length config.tasks → TasksAreApart config s → TasksAreApart config next

-- each state that events lead to is valid, and in it no two tasks hold one resource
abbrev pub RunsAreValid : Type 0
RunsAreValid = (config : Config) (app : App) (events : List Stamped) (end : System)
    → WellFormed config app → AreStepsTo config app events (opening config app) end → IsValid config app end × TasksAreApart config end × HasExclusion config end

-- an item that has a meaning for task t, or is a service
abbrev pub MeansOrServes : (app : App) (s : System) (t : ℕ) (o : Op) → IsAt app s t o → Type 0
MeansOrServes app s t o at =
    ((meant : ItemMeaning) × (meaning app o (task s t).registers at.frame at.outer s.symbols ≡ Some meant)) ⊎ ((call : Call) × (o ≡ op.Serve call))

-- a task that runs is at an item of its function, and that item has a meaning or is a service
abbrev pub ItemsMean : Type 0
ItemsMean = (config : Config) (app : App) (s : System) (t : ℕ) → WellFormed config app → IsValid config app s
    → t < length config.tasks → IsActive s t → (task s t).owed ≡ false → (o : Op) × (at : IsAt app s t o) × MeansOrServes app s t o at

-- there is a next event that is no admission
abbrev pub HasNext : Config → App → System → Type 0
HasNext config app s = (event : Event) × (admitted_line event ≡ None) × (next : System) × OsekStep config app event s next

-- where a task runs and owes no `back`, there is a next event that is no admission
abbrev pub RunningGoesOn : Type 0
RunningGoesOn = (config : Config) (app : App) (s : System) (t : ℕ) → WellFormed config app → IsValid config app s → TasksAreApart config s
    → s.booted ≡ true → IsTop config s [] t → IsActive s t → (task s t).owed ≡ false → HasNext config app s

-- a run never sticks: each valid state has a next event that is no admission
abbrev pub RunsNeverStick : Type 0
RunsNeverStick = (config : Config) (app : App) (s : System) → WellFormed config app → IsValid config app s → TasksAreApart config s → HasNext config app s

-- each task of a valid state is tidy
abbrev pub TasksAreTidy : Type 0
TasksAreTidy = (config : Config) (app : App) (s : System) (t : ℕ)
    → WellFormed config app → IsValid config app s → t < length config.tasks → IsTidy config app t (task s t)
