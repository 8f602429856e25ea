-- Runs that go on for ever, with arrivals that never end.
use Rattle.std.specs.Prelude.{ℕ, ◌+◌, ◌≤◌, ◌≡◌, List, map}
use Rattle.std.specs.List.{range_with_len}
use Rattle.sloth_base.specs.declared.config.Config.{Config}
use Rattle.sloth_base.specs.declared.app.App.{App}
use Rattle.sloth_base.specs.declared.image.Image.{Image}
use Rattle.sloth_base.specs.declared.service.Arrival.{Arrival}
use Rattle.sloth_base.specs.declared.numbers.Owners.{Owners}
use Rattle.sloth_base.specs.Owners.{owners_in, IsOwned}
use Rattle.rv32_machine.specs.Start.{start}
use Rattle.rv32_machine.specs.Run.{run}
use Rattle.sim_induction.specs.Sound.{Sound, IsSoundRun, events_of}

-- arrivals without end, of lines that have owners, at moments from 1 on that never fall and pass every bound
pub record ComeForEver (owners : Owners) (arrival : ℕ → Arrival) : Type 0 where
  pub first : 1 ≤ (arrival 0).at
  pub rising : (k : ℕ) → (arrival k).at ≤ (arrival (k + 1)).at
  pub unbounded : (bound : ℕ) → (k : ℕ) × (bound ≤ (arrival k).at)
  pub lines_owned : (k : ℕ) → IsOwned owners (arrival k).line

-- the first so many of them
abbrev pub first_arrivals : (arrival : ℕ → Arrival) → (count : ℕ) → List Arrival
first_arrivals arrival count = map arrival (range_with_len 0 count)

-- The first n instructions of a run that goes on for ever are a sound run: so many arrivals come before they are executed, and however many come
-- later, the machine goes through the same states, and the same events are observed.
pub record BeginsSound (config : Config) (app : App) (image : Image) (arrival : ℕ → Arrival) (n : ℕ) : Type 0 where
  pub count : ℕ
  pub sound : IsSoundRun config app image (first_arrivals arrival count) n
  pub others_later : (k : ℕ) → count ≤ k → n ≤ (arrival k).at
  pub same_run : (more : ℕ) → count ≤ more → run n (first_arrivals arrival more) (start image) ≡ run n (first_arrivals arrival count) (start image)
  pub same_events : (more : ℕ) → count ≤ more → events_of image (first_arrivals arrival more) n ≡ events_of image (first_arrivals arrival count) n

-- the run of a sound image goes on for ever, and is sound up to each count
abbrev pub SoundForEver : Type 0
SoundForEver = (config : Config) (app : App) (image : Image) (arrival : ℕ → Arrival) → Sound config app image → ComeForEver (owners_in config) arrival
    → (n : ℕ) → BeginsSound config app image arrival n
