-- Where no line arrives, a run of what is built is the only one of its length.
use Rattle.std.proofs.Common.{[]}
use Rattle.std.proofs.lemmas.List.Elements.{All-nil}
use Rattle.sloth_base.specs.declared.config.Config.{Config}
use Rattle.sloth_base.specs.declared.app.App.{App}
use Rattle.sloth_base.specs.declared.service.Arrival.{Arrival}
use Rattle.sloth_base.specs.declared.image.Image.{Image}
use Rattle.sloth_base.specs.declared.numbers.Owners.{Owners}
use Rattle.sloth_base.specs.Owners.{IsOwned, owners_in}
use Rattle.code_rules.specs.WellFormed.{WellFormed}
use Rattle.osek_blocking.proofs.WithoutArrivals.{only_run}
use Rattle.sim_induction.specs.Sound.{AreComing, Sound, events_of}
use Rattle.core_commands.specs.Top.{RunsAreOnly}

-- no arrivals are ones that come
no_arrivals : (owners : Owners) → AreComing owners []
no_arrivals owners = record { ordered = tt; lines_owned = All-nil (λ (a : Arrival). IsOwned owners a.line) }

-- each run of the image of well-formed task code is one of the abstract scheduler and in time
pub runs-only : (config : Config) (app : App) (image : Image) → WellFormed config app → Sound config app image → RunsAreOnly config app image
runs-only config app image well sound n =
    let run = sound.each [] n (no_arrivals (owners_in config)) in
    only_run config app n (events_of image [] n) well run.osek run.in_time
