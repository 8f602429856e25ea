-- Runs of sound images.
use Rattle.std.proofs.Common.{◌≡◌, ℕ, List, ap}
use Rattle.sloth_base.specs.declared.config.Config.{Config}
use Rattle.sloth_base.specs.declared.app.App.{App}
use Rattle.sloth_base.specs.declared.image.Image.{Image}
use Rattle.sloth_base.specs.declared.service.Arrival.{Arrival}
use Rattle.sloth_base.specs.Owners.{owners_in}
use Rattle.sim_induction.specs.Sound.{AreComing, Sound}
use Rattle.sloth_runner.specs.Runner.{run_end, end_of}
use Rattle.sloth_runner.specs.declared.runner.RunEnd.TheVariants.{Whole}

-- they never stop
pub whole-run : (config : Config) (app : App) (image : Image) (arrivals : List Arrival) (n : ℕ)
    → Sound config app image → AreComing (owners_in config) arrivals → run_end image arrivals n ≡ Whole
whole-run config app image arrivals n sound are = ap end_of (sound.each arrivals n are).whole
