-- Pieces one behind the other: their addresses, and the extents that hold them.
use Rattle.std.specs.Prelude.{ℕ, ◌+◌, ◌-◌, ◌%◌, ◌≡◌, List, [], ◌∷◌, map, All}
use Rattle.sloth_region.specs.declared.region.Extent.{Extent}
use Rattle.sloth_region.specs.Region.{aligned, AreApartWithin}

-- ---- each right behind the one before it

-- the extents of pieces at these addresses, of these lengths
abbrev pub extents_of : List ℕ → List ℕ → List Extent
extents_of [] lengths = []
extents_of (address ∷ addresses) [] = []
extents_of (address ∷ addresses) (len ∷ lengths) = record { base = address; len = len } ∷ extents_of addresses lengths

-- each extent begins where the one before it ends: there is no hole between them
abbrev pub AreClose : ℕ → ℕ → List Extent → Type 0
AreClose from end [] = from ≡ end
AreClose from end (e ∷ rest) = (e.base ≡ from) × AreClose (e.base + e.len) end rest

-- ---- each aligned

-- extents of these lengths from an address on, each at the least multiple of `align`
abbrev pub run : ℕ → ℕ → List ℕ → List Extent
run align from [] = []
run align from (len ∷ lengths) = record { base = aligned from align; len = len } ∷ run align (aligned from align + len) lengths

-- bytes that are enough for them, wherever they begin
abbrev pub room_for : ℕ → List ℕ → ℕ
room_for align [] = 0
room_for align (len ∷ lengths) = (align - 1) + len + room_for align lengths

-- what a run of extents is: of these lengths, in order, apart, aligned and inside
pub record AreRun (align from end : ℕ) (lengths : List ℕ) (extents : List Extent) : Type 0 where
  pub lengths_are : map (λ (e : Extent). e.len) extents ≡ lengths
  pub apart : AreApartWithin from end extents
  pub aligned_each : All (λ e. e.base % align ≡ 0) extents
