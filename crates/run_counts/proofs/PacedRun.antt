-- The pace of a run of n instructions, as its events show it.
use Rattle.std.specs.Prelude.{ℕ, ◌+◌, ◌<◌, ◌≤◌, ◌≡◌, List, [], ◌∷◌, true, cond}
use Rattle.std.specs.List.{AllByRecursion}
use Rattle.sloth_base.specs.declared.config.Config.{Config}
use Rattle.sloth_base.specs.declared.service.Stamped.{Stamped}
use Rattle.sloth_base.specs.Events.{is_boot}
use Rattle.sloth_base.specs.Stretches.{Boots, stretch_limit, longest_stretch}
use Rattle.osek_blocking.specs.Pace.{entry_counts, last_count, IsPaced}
use Rattle.run_counts.specs.EntryLatency.{IsShortTick}

-- the event spans no more counts than its stretch may have
abbrev pub LastsBriefly : Config → Stamped → Type 0
LastsBriefly config e = e.stamp.at < e.stamp.from + cond (is_boot e.event) (stretch_limit config Boots) (longest_stretch config)

-- the system has started
abbrev pub BeginsWithBoot : List Stamped → Type 0
BeginsWithBoot [] = ⊥
BeginsWithBoot (e ∷ events) = is_boot e.event ≡ true

-- each event ends soon behind the one before it and is brief, and behind boot the last one ends soon before the end of the run
pub record IsPacedRun (config : Config) (n : ℕ) (events : List Stamped) : Type 0 where
  pub paced : IsPaced 0 events
  pub brief : AllByRecursion (LastsBriefly config) events
  pub ticks : AllByRecursion (IsShortTick config) events
  pub reaches : BeginsWithBoot events → n ≤ last_count 0 events + 1 + entry_counts config
