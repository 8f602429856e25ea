-- What debuggers show of an image by the file of its texts, wherever interrupts are open.
use Rattle.std.specs.Prelude.{ℕ, ◌<◌, ◌≡◌, List, true, filter, Some}
use Rattle.sloth_base.specs.declared.app.App.{App}
use Rattle.sloth_base.specs.declared.config.Config.{Config}
use Rattle.sloth_base.specs.declared.service.Arrival.{Arrival}
use Rattle.sloth_base.specs.declared.image.Image.{Image}
use Rattle.sloth_base.specs.Machine.{State}
use Rattle.sloth_base.specs.Owners.{owners_in}
use Rattle.sloth_region.specs.declared.region.Map.{Map}
use Rattle.rv32_instr.specs.Memory.{memory_of}
use Rattle.rv32_machine.specs.Run.{state_after, state_with_arrivals}
use Rattle.rv32_machine.specs.Start.{start}
use Rattle.osek_scheduler.specs.Runs.{AreStepsTo}
use Rattle.osek_scheduler.specs.State.{System, opening}
use Rattle.rv32_expand.specs.InPlace.{ItemsInPlace}
use Rattle.code_rules.specs.WellFormed.{WellFormed}
use Rattle.sim_induction.specs.Sound.{AreComing, Sound, events_of, stands_before}
use Rattle.sloth_build.specs.ImageOf.{HasPlannedMap}
use Rattle.debug_view.specs.RightValues.{AreRight}

-- At each count of a run that finds MIE 1, whatever lines arrive, each formula of the table of this map has, over memory and controller with the arrivals of
-- the count, the value that the system has to which the events before the count lead.
pub record ShowsFormulas (config : Config) (app : App) (image : Image) (m : Map) : Type 0 where
  pub each : (arrivals : List Arrival) (n count : ℕ) (state : State) (s : System) → AreComing (owners_in config) arrivals
      → count < n → state_after count arrivals (start image) ≡ Some state → state.core.mie ≡ true
      → AreStepsTo config app (filter (stands_before count) (events_of image arrivals n)) (opening config app) s
      → AreRight (memory_of (state_with_arrivals arrivals count state).core) config m s

-- so it is of each image of a planned map
abbrev pub PlannedImagesShow : Type 0
PlannedImagesShow = (config : Config) (app : App) (image : Image) → WellFormed config app → Sound config app image → ItemsInPlace image config app
    → (has : HasPlannedMap config app image) → ShowsFormulas config app image has.by_map.map
