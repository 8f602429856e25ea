-- Extents that follow one another.
use Rattle.std.proofs.Common.{◌≤◌, ◌+◌, ℕ, suc, List, [], ◌∷◌, arith}
use Rattle.sloth_region.specs.declared.region.Extent.{Extent}
use Rattle.sloth_region.specs.Region.{FollowWithin, AreApartWithin}

behind_first : (from end : ℕ) (x : Extent) (xs : List Extent) → AreApartWithin from end (x ∷ xs) → AreApartWithin (x.base + x.len) end xs
behind_first from end x xs h = record {
  apart = λ i j d l m. h.apart (suc i) (suc j) d (omega arith) (omega arith);
  inside = λ k d l. (h.apart 0 (suc k) d (omega arith) (omega arith), (h.inside (suc k) d (omega arith)).1, (h.inside (suc k) d (omega arith)).2);
}

-- extents that are apart follow one another
pub follow_from_apart : (from end : ℕ) (xs : List Extent) → AreApartWithin from end xs → from ≤ end → FollowWithin from end xs
follow_from_apart from end [] h le = le
follow_from_apart from end (x ∷ xs) h le =
    let i = h.inside 0 x (omega arith) in
    (i.0, i.1, follow_from_apart (x.base + x.len) end xs (behind_first from end x xs h) i.2)

pub ends : (from end : ℕ) (xs : List Extent) → FollowWithin from end xs → from ≤ end
ends from end [] f = f
ends from end (x ∷ xs) f = let le = ends (x.base + x.len) end xs f.2 in omega (arith, le, f.0)
