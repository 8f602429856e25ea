-- What the runs of an image print, as the checker of texts judges it.
use Rattle.std.specs.Prelude.{ℕ, List}
use Rattle.sloth_base.specs.Owners.{owners_in}
use Rattle.sloth_base.specs.declared.app.App.{App}
use Rattle.sloth_base.specs.declared.config.Config.{Config}
use Rattle.sloth_base.specs.declared.service.Arrival.{Arrival}
use Rattle.sloth_base.specs.declared.image.Image.{Image}
use Rattle.code_rules.specs.AppRange.{AppInRange}
use Rattle.rv32_expand.specs.InPlace.{ItemsInPlace}
use Rattle.sim_induction.specs.Sound.{AreComing, Sound}
use Rattle.sim_relation.specs.Bounds.{AreBelow}
use Rattle.trace_text.specs.EventNumbers.{Has32Bits}
use Rattle.trace_text.specs.declared.events.Form.TheVariants.{Counted}
use Rattle.trace_check.specs.Verdicts.{Checked}
use Rattle.sloth_runner.specs.Runner.{run_text}

-- The text of each run, in the counted form, is that of a run of the abstract scheduler in which the arrivals are admitted in time. Lines show counts of
-- 32 bits, so a longer run has none.
abbrev pub RunsAreChecked : Config → App → Image → Type 0
RunsAreChecked config app image = (arrivals : List Arrival) (n : ℕ) → AreComing (owners_in config) arrivals → Has32Bits n
    → Checked config app arrivals (run_text image arrivals Counted n) n

-- so it is of a sound image with its items in place, whose bytes are below 256
abbrev pub SoundRunsAreChecked : Type 0
SoundRunsAreChecked = (config : Config) (app : App) (image : Image) → AppInRange config app → Sound config app image → ItemsInPlace image config app
    → AreBelow 256 image.memory → RunsAreChecked config app image
