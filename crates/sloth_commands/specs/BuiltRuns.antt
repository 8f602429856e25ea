-- What every run of an image that is built keeps and prints.
use Rattle.std.specs.Prelude.{ℕ, List}
use Rattle.sloth_base.specs.Owners.{owners_in}
use Rattle.sloth_base.specs.declared.app.App.{App}
use Rattle.sloth_base.specs.declared.config.Config.{Config}
use Rattle.sloth_base.specs.declared.service.Arrival.{Arrival}
use Rattle.sloth_base.specs.declared.image.Image.{Image}
use Rattle.run_counts.specs.BlockingBounds.{KeepsBlockingBounds}
use Rattle.sim_induction.specs.Sound.{AreComing, events_of}
use Rattle.core_commands.specs.Top.{IsBuiltImage}
use Rattle.losses_text.specs.NothingLost.{HasRequests}
use Rattle.sloth_commands.specs.CheckedRuns.{RunsAreChecked}

-- in every run of an image, whatever lines arrive, the observed events keep the blocking bounds of the tasks
abbrev pub RunsKeepBlockingBounds : Config → App → Image → Type 0
RunsKeepBlockingBounds config app image =
    (arrivals : List Arrival) (n : ℕ) → AreComing (owners_in config) arrivals
    → KeepsBlockingBounds config app n (events_of image arrivals n)

-- a Ready task of an image that is built waits for no more work of lower tasks than its bound
abbrev pub BuiltRunsKeepBlockingBounds : Type 0
BuiltRunsKeepBlockingBounds = (config : Config) (app : App) (image : Image) → IsBuiltImage config app image → RunsKeepBlockingBounds config app image

-- the checker of texts answers yes to what a run of an image that is built prints
abbrev pub BuiltRunsAreChecked : Type 0
BuiltRunsAreChecked = (config : Config) (app : App) (image : Image) → IsBuiltImage config app image → RunsAreChecked config app image

-- Each run of an image that is built asks of tasks and counters what `losses` counts: each request is an event's, in the state of the abstract scheduler that
-- the event finds. Where none of a line is lost, no event finds a state in which it loses one.
abbrev pub BuiltRunsHaveRequests : Type 0
BuiltRunsHaveRequests =
    (config : Config) (app : App) (image : Image) → IsBuiltImage config app image → (arrivals : List Arrival) (n : ℕ) → AreComing (owners_in config) arrivals
    → HasRequests config app (events_of image arrivals n)
