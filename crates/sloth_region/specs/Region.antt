-- A region of addresses, and the extents that are placed in it.
use Rattle.std.specs.Prelude.{ℕ, ◌+◌, ◌-◌, ◌*◌, ◌/◌, ◌≤◌, List, [], ◌∷◌, All, AllPairs}
use Rattle.sloth_region.specs.declared.region.Extent.{Extent}

-- from `base` on, below `end`
pub record Area : Type 0 where
  pub base : ℕ
  pub end : ℕ
  -- in the order in which they were placed
  pub placed : List Extent

-- the least multiple of `align` that is not below an address
abbrev pub aligned : ℕ → ℕ → ℕ
aligned address align = (address + (align - 1)) / align * align

-- the first address behind the last of these extents, which begin at `base`
abbrev pub first_free_address : ℕ → List Extent → ℕ
first_free_address base [] = base
first_free_address base (e ∷ rest) = first_free_address (e.base + e.len) rest

-- two extents have no address in common, and the first lies below the second
abbrev pub IsBelow : Extent → Extent → Type 0
IsBelow a b = a.base + a.len ≤ b.base

-- each extent has an address, begins where the one before it has ended or later, and ends by `end`
abbrev pub FollowWithin : ℕ → ℕ → List Extent → Type 0
FollowWithin from end [] = from ≤ end
FollowWithin from end (e ∷ rest) = (from ≤ e.base) × (1 ≤ e.len) × FollowWithin (e.base + e.len) end rest

-- each of two extents lies below the other, pair by pair in order, and all lie within these addresses
pub record AreApartWithin (from end : ℕ) (extents : List Extent) : Type 0 where
  pub apart : AllPairs IsBelow extents
  pub inside : All (λ e. (from ≤ e.base) × (1 ≤ e.len) × (e.base + e.len ≤ end)) extents
