-- Searches for the least fault, in whatever order the faults are met.
use Rattle.std.specs.Prelude.{Bool, if◌then◌else◌, Option, Some, None, ◌⊎◌, List, [], ◌∷◌, ◌++◌}
use Rattle.sloth_base.specs.declared.refusal.Refusal.{Refusal}
use Rattle.sloth_base.specs.Order.{is_before, IsLeast, NoFault}

-- the lesser of the least refusal so far and one more; the earlier found where neither is less
unfoldable pub lesser : Option Refusal → Refusal → Refusal
lesser None r = r
lesser (Some m) r = if is_before m r then m else r

-- the least that two searches found
unfoldable pub merge : Option Refusal → Option Refusal → Option Refusal
merge o None = o
merge o (Some r) = Some (lesser o r)

-- a refusal where a test says so
abbrev pub fault_if : Bool → Refusal → Option Refusal
fault_if b r = if b then Some r else None

-- A search for the faults F answers the least of them, or none where there is none.
abbrev pub IsSearchResult : (Refusal → Type 0) → Option Refusal → Type 0
IsSearchResult F None = NoFault F
IsSearchResult F (Some r) = IsLeast F r

-- P holds of an element of xs, with the elements of front and of xs before it.
abbrev pub SomeFrom : {X : Type 0} → (List X → X → Refusal → Type 0) → List X → List X → Refusal → Type 0
SomeFrom P front [] r = ⊥
SomeFrom P front (x ∷ xs) r = P front x r ⊎ SomeFrom P (front ++ x ∷ []) xs r

-- P holds of an element of xs, with those before it.
abbrev pub Somewhere : {X : Type 0} → (List X → X → Refusal → Type 0) → List X → Refusal → Type 0
Somewhere P xs r = SomeFrom P [] xs r
