-- Runs of images meet the bounds of computed costs.
use Rattle.std.specs.Prelude.{ℕ, ◌+◌, ◌<◌, ◌≡◌, List, Bool, true, length, Decides}
use Rattle.sloth_base.specs.declared.config.Config.{Config}
use Rattle.sloth_base.specs.declared.app.App.{App}
use Rattle.sloth_base.specs.declared.service.Arrival.{Arrival}
use Rattle.sloth_base.specs.declared.image.Image.{Image}
use Rattle.sloth_base.specs.Named.{declaration}
use Rattle.sloth_base.specs.Owners.{owners_in}
use Rattle.code_rules.specs.AppRange.{IsTaskCode}
use Rattle.code_rules.specs.WellFormed.{WellFormed}
use Rattle.load_text.specs.declared.load_line.Entry.{Entry}
use Rattle.load_text.specs.Loads.{IsLoad, KeepDistances}
use Rattle.sim_induction.specs.Paced.{InPace}
use Rattle.sim_induction.specs.Sound.{AreComing, Sound, events_of}
use Rattle.sim_induction.specs.Weighed.{Weighed}
use Rattle.walk_sums.specs.Rounds.{IsClean}
use Rattle.run_counts.specs.Stages.{run_stages}
use Rattle.run_windows.specs.declared.costs.Costs.{Costs}
use Rattle.response_laws.specs.SoundRuns.{NoStretchIsAbove, KeepsWork, IsLongestItem}
use Rattle.response_laws.specs.Response.{RespondsWithin}
use Rattle.run_costs.specs.RunCosts.{AreRunCosts}
use Rattle.run_windows.specs.RunWindows.{AreRunBounds, AreTold}

-- the turns of just these tasks are cut into rounds: extended ones, which clear what they wait for
abbrev pub AreCutTasks : Config → App → (cuts : ℕ → Bool) → Type 0
AreCutTasks config app cuts = (t : ℕ) → t < length config.tasks → Decides (cuts t) (IsClean app t × ((declaration config t).extended ≡ true))

-- Of an image whose builder promises that its runs are sound, weighed and in pace: in every run whose arrivals keep a load, and which keeps its `work`
-- lines, a task h responds within r, where the windows of its starts by costs that runs keep are within r; or, behind boot, those of all starts but boot. It has
-- left if the run has so many instructions, an item and a stretch.
abbrev pub ImagesMeetBounds : Type 0
ImagesMeetBounds = (config : Config) (app : App) (image : Image) (load : List Entry) (arrivals : List Arrival) (n late longest h r : ℕ) (boot : Bool) (cuts : ℕ → Bool) (costs : Costs)
    → WellFormed config app → IsTaskCode app → Sound config app image → Weighed config app image → InPace config app image
    → IsLongestItem app longest → NoStretchIsAbove config app late
    → AreComing (owners_in config) arrivals → IsLoad (owners_in config) load → KeepDistances load arrivals
    → AreCutTasks config app cuts → KeepsWork config load cuts (run_stages config app (events_of image arrivals n))
    → AreRunCosts config app load costs → h < length config.tasks → AreTold costs h → AreRunBounds longest late costs h boot r
    → RespondsWithin config app n (longest + late) h r boot (events_of image arrivals n)
