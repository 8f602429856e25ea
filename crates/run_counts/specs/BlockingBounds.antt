-- What the bounds of raised sections promise of the runs of an image.
use Rattle.std.specs.Prelude.{ℕ, List}
use Rattle.std.specs.List.{AllByRecursion}
use Rattle.sloth_base.specs.declared.config.Config.{Config}
use Rattle.sloth_base.specs.declared.app.App.{App}
use Rattle.sloth_base.specs.declared.service.Arrival.{Arrival}
use Rattle.sloth_base.specs.declared.service.Stamped.{Stamped}
use Rattle.sloth_base.specs.declared.image.Image.{Image}
use Rattle.code_rules.specs.WellFormed.{WellFormed}
use Rattle.sim_induction.specs.Sound.{IsSoundRun, events_of}
use Rattle.osek_blocking.specs.Kept.{KeepsBounds}
use Rattle.osek_blocking.specs.Spent.{KeepsCounts}
use Rattle.run_counts.specs.EntryLatency.{IsShortTick, EntersInTime}

-- The events of n instructions keep the blocking bounds of their tasks.
pub record KeepsBlockingBounds (config : Config) (app : App) (n : ℕ) (events : List Stamped) : Type 0 where
  -- from becoming Ready up to its entry a task waits for at most as many items of lower tasks as its bound
  pub bounds : KeepsBounds config app events
  -- and at most 200 times as many counts are spent on them
  pub counts : KeepsCounts config app events
  -- and the task of highest priority is entered within its latency
  pub latency : EntersInTime config app n events
  -- and a tick takes at most 160 counts and 40 for each alarm of its counter
  pub ticks : AllByRecursion (IsShortTick config) events

-- every sound run of an image of well-formed task code keeps the blocking bounds
abbrev pub SoundRunsKeepBlockingBounds : Type 0
SoundRunsKeepBlockingBounds = (config : Config) (app : App) (image : Image) (arrivals : List Arrival) (n : ℕ)
    → WellFormed config app → IsSoundRun config app image arrivals n → KeepsBlockingBounds config app n (events_of image arrivals n)
