-- What the numbers of requests say of a run.
use Rattle.std.specs.Prelude.{ℕ, ◌≡◌, List, ◌∷◌, ◌++◌}
use Rattle.sloth_base.specs.declared.app.App.{App}
use Rattle.sloth_base.specs.declared.config.Config.{Config}
use Rattle.sloth_base.specs.declared.service.Stamped.{Stamped}
use Rattle.osek_scheduler.specs.Runs.{AreStepsTo, OsekRun}
use Rattle.osek_scheduler.specs.State.{System, opening}
use Rattle.losses_text.specs.RequestCounts.{lost_count}
use Rattle.losses_text.specs.Requests.{AreRequests, event_requests}
use Rattle.losses_text.specs.declared.requests.Request.{Request}

-- no event loses a request of the line in the state that it finds
abbrev pub LosesNone : Config → App → List Stamped → (line : ℕ) → Type 0
LosesNone config app events line =
    (before behind : List Stamped) (e : Stamped) (s : System) → events ≡ before ++ e ∷ behind → AreStepsTo config app before (opening config app) s
    → lost_count (event_requests config app e s) line ≡ 0

-- the events ask for this and nothing else, and where no request of a line is lost, none of any event is
pub record HasRequests (config : Config) (app : App) (events : List Stamped) : Type 0 where
  pub all : List Request
  pub are : AreRequests config app events (opening config app) all
  pub only : (other : List Request) → AreRequests config app events (opening config app) other → other ≡ all
  pub none_lost : (line : ℕ) → lost_count all line ≡ 0 → LosesNone config app events line

-- so does each run of the abstract scheduler
abbrev pub RunsHaveRequests : Type 0
RunsHaveRequests = (config : Config) (app : App) (events : List Stamped) → OsekRun config app events → HasRequests config app events
