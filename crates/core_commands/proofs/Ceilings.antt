-- Accepted task code is well formed, and the runs of what is built of it keep the priority ceiling protocol.
use Rattle.std.proofs.Common.{ℕ, List, Option, Some, None}
use Rattle.sloth_base.specs.declared.config.Config.{Config}
use Rattle.sloth_base.specs.declared.app.App.{App}
use Rattle.sloth_base.specs.declared.service.Arrival.{Arrival}
use Rattle.sloth_base.specs.declared.image.Image.{Image}
use Rattle.sloth_base.specs.Owners.{owners_in}
use Rattle.code_rules.specs.AppRange.{AppInRange}
use Rattle.code_rules.specs.WellFormed.{WellFormed}
use Rattle.osek_blocking.proofs.Protocol.{keeps_protocol}
use Rattle.sim_induction.specs.Sound.{AreComing, Sound, events_of}
use Rattle.sloth_source.specs.Texts.{AreAccepted}
use Rattle.command_line.specs.Command.{Run}
use Rattle.core_commands.specs.Top.{RunsKeepProtocol, ShownKeepProtocol}

-- accepted task code that is in range is well formed
pub well_formed : (oil src : List ℕ) (config : Config) (app : App) → AppInRange config app → AreAccepted oil src config app → WellFormed config app
well_formed oil src config app range accepted =
    let code = accepted.code in
    record { in_range = range; no_cycle = code.no_cycle; no_fault = code.no_fault }

-- each run of its image is one of the abstract scheduler, and so keeps the protocol
pub runs-keep : (config : Config) (app : App) (image : Image) → WellFormed config app → Sound config app image → RunsKeepProtocol config app image
runs-keep config app image well sound arrivals n are = keeps_protocol config app (events_of image arrivals n) well (sound.each arrivals n are).osek

-- and so does the run that a command shows
pub shown-keep : (config : Config) (app : App) (image : Image) (arrivals : List Arrival) (run : Option Run) → RunsKeepProtocol config app image
    → AreComing (owners_in config) arrivals → ShownKeepProtocol config app image arrivals run
shown-keep config app image arrivals None keeps are = tt
shown-keep config app image arrivals (Some run) keeps are = keeps arrivals run.n are
