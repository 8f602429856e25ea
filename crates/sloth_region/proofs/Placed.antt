-- Extents one behind the other.
use Rattle.std.proofs.Common.{◌≡◌, ℕ, ◌+◌, ◌≤◌, List, [], ◌∷◌, ◌++◌, refl, arith}
use Rattle.std.specs.Prelude.{All, AllPairs}
use Rattle.std.proofs.lemmas.List.Kept.{AllPairs-cons}
use Rattle.std.proofs.lemmas.List.Elements.{All-cons}
use Rattle.sloth_region.specs.declared.region.Extent.{Extent}
use Rattle.sloth_region.specs.Region.{IsBelow, FollowWithin, AreApartWithin, first_free_address}

-- one more behind the last
pub first_free-append : (base : ℕ) (extents : List Extent) (e : Extent) → first_free_address base (extents ++ e ∷ []) ≡ e.base + e.len
first_free-append base [] e = refl
first_free-append base (x ∷ rest) e = first_free-append (x.base + x.len) rest e

pub follow-append : (from end : ℕ) (extents : List Extent) (e : Extent) → FollowWithin from end extents → first_free_address from extents ≤ e.base → 1 ≤ e.len → e.base + e.len ≤ end → FollowWithin from end (extents ++ e ∷ [])
follow-append from end [] e h behind some inside = (behind, some, inside)
follow-append from end (x ∷ rest) e h behind some inside = (h.0, h.1, follow-append (x.base + x.len) end rest e h.2 behind some inside)

-- the first free address is inside
pub free_inside : (from end : ℕ) (extents : List Extent) → FollowWithin from end extents → first_free_address from extents ≤ end
free_inside from end [] h = h
free_inside from end (x ∷ rest) h = free_inside (x.base + x.len) end rest h.2

free_behind : (from end : ℕ) (extents : List Extent) → FollowWithin from end extents → from ≤ end
free_behind from end [] h = h
free_behind from end (x ∷ rest) h = let k = free_behind (x.base + x.len) end rest h.2 in omega (arith, h.0)

all_inside : (low from end : ℕ) (extents : List Extent) → low ≤ from → FollowWithin from end extents → All (λ e. (low ≤ e.base) × (1 ≤ e.len) × (e.base + e.len ≤ end)) extents
all_inside low from end [] h follow = λ k d below. absurd (omega arith)
all_inside low from end (x ∷ rest) h follow =
    let ends = free_behind (x.base + x.len) end rest follow.2 in
    All-cons (λ e. (low ≤ e.base) × (1 ≤ e.len) × (e.base + e.len ≤ end)) x rest (omega (arith, follow.0), follow.1, ends) (all_inside low (x.base + x.len) end rest (omega (arith, follow.0)) follow.2)

all_behind : (low from end : ℕ) (x : Extent) (extents : List Extent) → x.base + x.len ≤ from → FollowWithin from end extents → All (IsBelow x) extents
all_behind low from end x [] h follow = λ k d below. absurd (omega arith)
all_behind low from end x (y ∷ rest) h follow =
    All-cons (IsBelow x) y rest (omega (arith, follow.0)) (all_behind low (y.base + y.len) end x rest (omega (arith, follow.0)) follow.2)

all_apart : (from end : ℕ) (extents : List Extent) → FollowWithin from end extents → AllPairs IsBelow extents
all_apart from end [] follow = λ i j d below inside. absurd (omega arith)
all_apart from end (x ∷ rest) follow = AllPairs-cons IsBelow x rest (all_behind from (x.base + x.len) end x rest (omega arith) follow.2) (all_apart (x.base + x.len) end rest follow.2)

pub apart_within : (from end : ℕ) (extents : List Extent) → FollowWithin from end extents → AreApartWithin from end extents
apart_within from end extents follow = record { apart = all_apart from end extents follow; inside = all_inside from from end extents (omega arith) follow }
