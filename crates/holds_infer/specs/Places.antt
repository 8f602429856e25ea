-- The lists at the places of a body.
use Rattle.std.specs.Prelude.{ℕ, List, [], get_or, Option, Some, None}

-- the list of each place of a body, where it has one
abbrev pub PlaceLists : Type 0
PlaceLists = List (Option (List ℕ))

-- a list, or the empty one
abbrev pub list_or : Option (List ℕ) → List ℕ
list_or None = []
list_or (Some held) = held

-- the list of a place, empty where it has none
abbrev pub list_at : PlaceLists → ℕ → List ℕ
list_at lists i = list_or (get_or lists i None)
