-- Which event comes next where no arrival does, and the one run that this leaves.
use Rattle.std.specs.Prelude.{ℕ, ◌≡◌, List, [], ◌∷◌, length, map, None}
use Rattle.sloth_base.specs.declared.config.Config.{Config}
use Rattle.sloth_base.specs.declared.app.App.{App}
use Rattle.sloth_base.specs.declared.service.Event.{Event}
use Rattle.sloth_base.specs.declared.service.Stamped.{Stamped}
use Rattle.code_rules.specs.WellFormed.{WellFormed}
use Rattle.osek_scheduler.specs.State.{System, opening}
use Rattle.osek_scheduler.specs.InTime.{InTime}
use Rattle.sloth_base.specs.Events.{admitted_line}
use Rattle.osek_scheduler.specs.Steps.{OsekStep}
use Rattle.osek_scheduler.specs.Runs.{AreStepsTo, OsekRun}

-- an event is no admission of an arrival
abbrev pub IsNoAdmission : Event → Type 0
IsNoAdmission e = admitted_line e ≡ None

-- no event is an admission
abbrev pub AreOwn : List Stamped → Type 0
AreOwn [] = Unit {0}
AreOwn (e ∷ events) = IsNoAdmission e.event × AreOwn events

-- From a state of a run in which no task is fresh, two steps of events that are no admissions are of one event: where a counter is due, its tick.
abbrev pub OneNextEvent : Type 0
OneNextEvent = (config : Config) (app : App) (events : List Stamped) (s : System) (e f : Event) (after other : System)
    → WellFormed config app → AreStepsTo config app events (opening config app) s → s.fresh ≡ []
    → IsNoAdmission e → OsekStep config app e s after → IsNoAdmission f → OsekStep config app f s other → e ≡ f

-- two runs of one length without admissions have the same events, and end in the same state
abbrev pub OneRun : Type 0
OneRun = (config : Config) (app : App) (events others : List Stamped) (end other : System) → WellFormed config app → length events ≡ length others
    → AreOwn events → AreStepsTo config app events (opening config app) end → AreOwn others → AreStepsTo config app others (opening config app) other
    → (map (λ e. e.event) events ≡ map (λ e. e.event) others) × (end ≡ other)

-- The events have no admission, neither an admit nor a due counter, and no other events without one are as many and a run of the abstract
-- scheduler: what comes is determined.
pub record IsOnlyRun (config : Config) (app : App) (events : List Stamped) : Type 0 where
  pub own : AreOwn events
  pub alone : (others : List Stamped) (end : System) → length others ≡ length events → AreOwn others → AreStepsTo config app others (opening config app) end
      → map (λ e. e.event) others ≡ map (λ e. e.event) events

-- a run of well-formed task code, in time without arrivals, is the only one of its length
abbrev pub RunsWithoutArrivals : Type 0
RunsWithoutArrivals = (config : Config) (app : App) (n : ℕ) (events : List Stamped) → WellFormed config app → OsekRun config app events
    → InTime config n [] events → IsOnlyRun config app events
