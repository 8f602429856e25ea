-- A run of an image is one of the abstract scheduler: the promise of the builder.
use Rattle.std.specs.Prelude.{ℕ, ◌<◌, ◌≡◌, List, Bool, true, filter, map, All, nat_le, nat_lt, if◌then◌else◌, Some, None}
use Rattle.sloth_base.specs.declared.config.Config.{Config}
use Rattle.sloth_base.specs.declared.app.App.{App}
use Rattle.sloth_base.specs.declared.image.Image.{Image}
use Rattle.sloth_base.specs.declared.service.Arrival.{Arrival}
use Rattle.sloth_base.specs.declared.service.Stamped.{Stamped}
use Rattle.sloth_base.specs.Machine.{State}
use Rattle.sloth_base.specs.Arrivals.{AreRisingMoments}
use Rattle.sloth_base.specs.Owners.{owners_in, IsOwned}
use Rattle.sloth_base.specs.declared.numbers.Owners.{Owners}
use Rattle.rv32_machine.specs.Start.{start}
use Rattle.rv32_machine.specs.Run.{run, steps_of, state_after, stop_of, state_with_arrivals}
use Rattle.observe.specs.Observe.{view_of_image, observe}
use Rattle.osek_scheduler.specs.State.{System, opening}
use Rattle.osek_scheduler.specs.Runs.{OsekRun, AreStepsTo}
use Rattle.osek_scheduler.specs.InTime.{InTime, is_admit}
use Rattle.sim_induction.specs.Mirror.{Mirror}
use Rattle.sim_induction.specs.Short.{Short}

-- the events of a run of n instructions
abbrev pub events_of : Image → List Arrival → ℕ → List Stamped
events_of image arrivals n = observe (view_of_image image) arrivals (steps_of (run n arrivals (start image)))

-- the event stands before the count: an admit of its moment or an earlier one, another that ended before it
abbrev pub stands_before : ℕ → Stamped → Bool
stands_before count e = if is_admit e then nat_le e.stamp.at count else nat_lt e.stamp.at count

-- the abstract state that these events lead to mirrors the machine's state, with the arrivals of the count
abbrev pub MirrorsAt : Config → App → List Stamped → State → Type 0
MirrorsAt config app events state = (s : System) × AreStepsTo config app events (opening config app) s × Mirror config state.core s

-- the events of a run are a run of the abstract scheduler
pub record IsSoundRun (config : Config) (app : App) (image : Image) (arrivals : List Arrival) (n : ℕ) : Type 0 where
  -- the image executes so many instructions
  pub whole : stop_of n arrivals (start image) ≡ None
  pub osek : OsekRun config app (events_of image arrivals n)
  pub in_time : InTime config n arrivals (events_of image arrivals n)
  pub short : Short config (view_of_image image) (steps_of (run n arrivals (start image)))
  pub mirrors : (count : ℕ) (state : State) → count < n → state_after count arrivals (start image) ≡ Some state → state.core.mie ≡ true
      → MirrorsAt config app (filter (stands_before count) (events_of image arrivals n)) (state_with_arrivals arrivals count state)

-- arrivals of lines that have owners, at moments from 1 on that never fall: any number of them
pub record AreComing (owners : Owners) (arrivals : List Arrival) : Type 0 where
  pub ordered : AreRisingMoments 1 arrivals
  pub lines_owned : All (λ a. IsOwned owners a.line) arrivals

-- for every list of arrivals and every number of instructions; the image has the names of the counters
pub record Sound (config : Config) (app : App) (image : Image) : Type 0 where
  pub counters : image.counters ≡ map (λ c. c.name) config.counters
  pub each : (arrivals : List Arrival) (n : ℕ) → AreComing (owners_in config) arrivals → IsSoundRun config app image arrivals n
