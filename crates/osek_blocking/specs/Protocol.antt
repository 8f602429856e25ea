-- What the priority ceiling protocol promises of a list of events (OSEK OS 2.2.3, section 8).
use Rattle.std.specs.Prelude.{◌≡◌, ◌≢◌, List, ◌++◌, All}
use Rattle.sloth_base.specs.declared.config.Config.{Config}
use Rattle.sloth_base.specs.declared.app.App.{App}
use Rattle.sloth_base.specs.declared.service.Event.{Event}
use Rattle.sloth_base.specs.declared.service.Event.TheVariants as event
use Rattle.sloth_base.specs.declared.service.Stamped.{Stamped}
use Rattle.sloth_base.specs.declared.service.Service.TheVariants as service
use Rattle.sloth_base.specs.Status.{E_OK}
use Rattle.osek_scheduler.specs.State.{System, opening}
use Rattle.osek_scheduler.specs.Runs.{AreStepsTo}
use Rattle.osek_scheduler.specs.Apart.{HasExclusion}
use Rattle.osek_blocking.specs.Blocking.{BlocksOnce}

-- In each state that the events lead through, the one before them and the one behind them included, no two tasks hold one resource, a task that
-- is not Active holds none, and no two Active tasks have one current priority.
abbrev pub AlwaysExcludes : Config → App → List Stamped → Type 0
AlwaysExcludes config app events =
    (front rest : List Stamped) (s : System) → events ≡ front ++ rest → AreStepsTo config app front (opening config app) s → HasExclusion config s

-- if the event is of GetResource, it is a `call` with status E_OK
abbrev pub GetsResource : Event → Type 0
GetsResource (event.Call t served status) = served ≡ service.GetResource → status ≡ E_OK
GetsResource (event.Left t served) = served ≢ service.GetResource
GetsResource _ = Unit {0}

-- GetResource has status E_OK at each of its events
abbrev pub AlwaysGets : List Stamped → Type 0
AlwaysGets events = All (λ e. GetsResource e.event) events

-- The events keep the priority ceiling protocol.
pub record KeepsCeilingProtocol (config : Config) (app : App) (events : List Stamped) : Type 0 where
  -- no task waits for more than one of lower priority
  pub blocks_once : BlocksOnce config app events
  -- resources are held by one task at a time
  pub excludes : AlwaysExcludes config app events
  -- no task has to wait at a resource
  pub gets : AlwaysGets events
