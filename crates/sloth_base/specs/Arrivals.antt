-- Arrivals of interrupt lines, in the order of an arrivals file.
use Rattle.std.specs.Prelude.{ℕ, ◌&&◌, List, [], ◌∷◌, filter, nat_le, nat_lt, ◌≤◌, length, All}
use Rattle.sloth_base.specs.declared.service.Arrival.{Arrival}
use Rattle.sloth_base.specs.declared.numbers.Owners.{Owners}
use Rattle.sloth_base.specs.Owners.{IsOwned}
use Rattle.sloth_base.specs.Limits.{arrival_limit, count_limit}

-- the arrivals whose moment is at least `from` and below `to`
abbrev pub moments : ℕ → ℕ → List Arrival → List Arrival
moments from to arrivals = filter (λ a. nat_le from a.at && nat_lt a.at to) arrivals

-- the moments never fall
abbrev pub AreRisingMoments : ℕ → List Arrival → Type 0
AreRisingMoments before [] = Unit {0}
AreRisingMoments before (a ∷ rest) = (before ≤ a.at) × AreRisingMoments a.at rest

-- a limited number of arrivals, at moments from 1 to the last of a run that never fall, of lines that have owners
pub record AreArrivals (owners : Owners) (arrivals : List Arrival) : Type 0 where
  pub few : length arrivals ≤ arrival_limit
  pub moments_in_range : All (λ a. a.at ≤ count_limit) arrivals
  pub ordered : AreRisingMoments 1 arrivals
  pub lines_owned : All (λ a. IsOwned owners a.line) arrivals
