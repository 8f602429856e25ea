-- Admissions of a task that nothing but its arrivals makes Ready: they find it Suspended, so that no activation is lost.
use Rattle.std.specs.Prelude.{ℕ, ◌+◌, ◌<◌, ◌≤◌, ◌≡◌, ◌⊎◌, List, ◌∷◌, ◌++◌, true, length, Some}
use Rattle.sloth_base.specs.declared.config.Config.{Config}
use Rattle.sloth_base.specs.declared.app.App.{App}
use Rattle.sloth_base.specs.declared.service.Arrival.{Arrival}
use Rattle.sloth_base.specs.declared.service.Event.TheVariants as event
use Rattle.sloth_base.specs.declared.service.Stamped.{Stamped}
use Rattle.code_rules.specs.WellFormed.{WellFormed}
use Rattle.load_text.specs.declared.load_line.Entry.{Entry}
use Rattle.load_text.specs.Loads.{distance, KeepDistances}
use Rattle.osek_scheduler.specs.declared.state.TaskState.TheVariants as mode
use Rattle.osek_scheduler.specs.State.{System, task, opening}
use Rattle.osek_scheduler.specs.InTime.{InTime, others}
use Rattle.osek_scheduler.specs.Runs.{AreStepsTo, OsekRun}
use Rattle.response_laws.specs.Arrivals.{HasDistances}
use Rattle.response_laws.specs.Made.{is_made_by_arrivals}
use Rattle.response_laws.specs.Response.{RespondsWithin}

-- one of these events is no admission
abbrev pub HasOther : List Stamped → Type 0
HasOther events = 0 < length (others events)

-- Behind an admission another event comes, or the run of n instructions has so many more; or its arrivals are that much further apart than a response.
abbrev pub IsFollowed : (n more r d : ℕ) (admit : Stamped) (behind : List Stamped) → Type 0
IsFollowed n more r d admit behind = HasOther behind ⊎ ((admit.stamp.at + more ≤ n) ⊎ (r + more ≤ d + 1))

-- each admission of task t that is followed so finds it Suspended
abbrev pub FindSuspended : Config → App → (n more t r d : ℕ) → List Stamped → Type 0
FindSuspended config app n more t r d events =
    (before behind : List Stamped) (admit : Stamped) (found : System) → events ≡ before ++ admit ∷ behind → AreStepsTo config app before (opening config app) found
    → admit.event ≡ event.Admit t → IsFollowed n more r d admit behind → (task found t).state ≡ mode.Suspended

-- In every run of well-formed task code whose arrivals keep a load, each admission of a task that responds within the distance of its arrivals, and that
-- nothing else makes Ready, finds it Suspended, if it is followed.
abbrev pub AdmissionsFindSuspended : Type 0
AdmissionsFindSuspended = (config : Config) (app : App) (load : List Entry) (n more t r d : ℕ) (arrivals : List Arrival) (events : List Stamped)
    → WellFormed config app → OsekRun config app events → InTime config n arrivals events → HasDistances load → KeepDistances load arrivals
    → RespondsWithin config app n more t r true events → is_made_by_arrivals config app t ≡ true → distance load t ≡ Some d → r ≤ d
    → FindSuspended config app n more t r d events
