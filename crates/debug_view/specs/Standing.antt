-- A machine that stands at a count of a run.
use Rattle.std.specs.Prelude.{ℕ, ◌≡◌, ◌≤◌, ◌<◌, ◌+◌, List, All, Option, None}
use Rattle.sloth_base.specs.declared.service.Arrival.{Arrival}
use Rattle.sloth_base.specs.declared.image.Image.{Image}
use Rattle.sloth_base.specs.ImageRange.{InFormat}
use Rattle.sloth_base.specs.Arrivals.{AreArrivals}
use Rattle.sloth_base.specs.Owners.{owners_named}
use Rattle.sloth_base.specs.Limits.{count_limit}
use Rattle.sloth_base.specs.Machine.{State}
use Rattle.sloth_base.specs.MemoryMap.{line_count}
use Rattle.observe.specs.Progress.{arrivals_from}
use Rattle.debug_view.specs.States.{state_at, stop_at, began_at, open_at}

-- the image, the arrivals, and how many instructions are done
pub record Standing : Type 0 where
  pub image : Image
  pub arrivals : List Arrival
  pub count : ℕ

-- each line is one of the controller's
abbrev pub AreLines : List Arrival → Type 0
AreLines arrivals = All (λ arrival. arrival.line < line_count) arrivals

-- a state of the machine, the arrivals of later moments, and what is carried along, are those of a count that the run reaches
pub record StandsAt (image : Image) (arrivals coming : List Arrival) (now : State) (count : ℕ) (began open_count : Option ℕ) : Type 0 where
  pub format : InFormat image
  pub in_range : AreArrivals (owners_named image) arrivals
  pub lines : AreLines coming
  pub later : coming ≡ arrivals_from (count + 1) arrivals
  pub state : now ≡ state_at image arrivals count
  pub reached : (k : ℕ) → k < count → stop_at image arrivals k ≡ None
  pub few : count ≤ count_limit
  pub begun : began ≡ began_at image arrivals count
  pub opened : open_count ≡ open_at image arrivals count
