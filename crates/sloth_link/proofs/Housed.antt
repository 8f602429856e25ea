-- Sections that lie each in an extent of its own, where the extents follow one another.
use Rattle.std.proofs.Common.{◌≤◌, ◌+◌, ℕ, List, [], ◌∷◌, ◌++◌, length, inl, arith}
use Rattle.std.specs.Prelude.{All, AllPairs, map}
use Rattle.std.proofs.lemmas.List.Elements.{All-cons}
use Rattle.std.proofs.lemmas.List.Kept.{AllPairs-cons}
use Rattle.sloth_base.specs.MemoryMap.{memory_base}
use Rattle.sloth_region.specs.declared.region.Extent.{Extent}
use Rattle.sloth_region.specs.Region.{FollowWithin}
use Rattle.mem_map.specs.Sections.{Section, IsSectionInside, block_section}
use Rattle.sloth_link.specs.Linked.{AreSectionsApart, sections_of, datum_section}
use Rattle.sloth_link.specs.Room.{RoomFollows, AreIn}

-- one list of extents behind another
pub follow_join : (from mid end : ℕ) (xs ys : List Extent) → FollowWithin from mid xs → FollowWithin mid end ys → mid ≤ end → FollowWithin from end (xs ++ ys)
follow_join from mid end [] [] f g le = omega (arith, f, le)
follow_join from mid end [] (y ∷ ys) f g le = (omega (arith, f, g.0), g.1, g.2)
follow_join from mid end (x ∷ xs) ys f g le = (f.0, f.1, follow_join (x.base + x.len) mid end xs ys f.2 g le)

follow_le : (from end : ℕ) (xs : List Extent) → FollowWithin from end xs → from ≤ end
follow_le from end [] f = f
follow_le from end (x ∷ xs) f = let le = follow_le (x.base + x.len) end xs f.2 in omega (arith, le, f.0)

behind : (from end : ℕ) (p : Section) (extents : List Extent) (sections : List Section) → memory_base + p.offset + length p.bytes ≤ from → FollowWithin from end extents → AreIn extents sections → All (AreSectionsApart p) sections
behind from end p [] [] le f z = λ k d l. absurd (omega arith)
behind from end p [] (q ∷ sections) le f z = absurd z
behind from end p (e ∷ extents) [] le f z = absurd z
behind from end p (e ∷ extents) (q ∷ sections) le f z =
    let low = z.0.0 in
    All-cons (AreSectionsApart p) q sections (inl (omega (arith, le, low, f.0))) (behind (e.base + e.len) end p extents sections (omega (arith, le, f.0)) f.2 z.1)

-- no two of them share a byte
pub sections_apart : (from end : ℕ) (extents : List Extent) (sections : List Section) → FollowWithin from end extents → AreIn extents sections → AllPairs AreSectionsApart sections
sections_apart from end [] [] f z = λ i j d l m. absurd (omega arith)
sections_apart from end [] (q ∷ sections) f z = absurd z
sections_apart from end (e ∷ extents) [] f z = absurd z
sections_apart from end (e ∷ extents) (q ∷ sections) f z =
    AllPairs-cons AreSectionsApart q sections (behind (e.base + e.len) end q extents sections z.0.1 f.2 z.1) (sections_apart (e.base + e.len) end extents sections f.2 z.1)

-- and all are inside the memory
pub sections_inside : (size from end : ℕ) (extents : List Extent) (sections : List Section) → end ≤ memory_base + size → FollowWithin from end extents → AreIn extents sections → All (IsSectionInside size) sections
sections_inside size from end [] [] h f z = λ k d l. absurd (omega arith)
sections_inside size from end [] (q ∷ sections) h f z = absurd z
sections_inside size from end (e ∷ extents) [] h f z = absurd z
sections_inside size from end (e ∷ extents) (q ∷ sections) h f z =
    let le = follow_le (e.base + e.len) end extents f.2 in
    let high = z.0.1 in
    All-cons (IsSectionInside size) q sections (omega (arith, le, high, h)) (sections_inside size (e.base + e.len) end extents sections h f.2 z.1)

-- one list of sections behind another
pub housed_join : (xs ys : List Extent) (ps qs : List Section) → AreIn xs ps → AreIn ys qs → AreIn (xs ++ ys) (ps ++ qs)
housed_join [] ys [] qs a b = b
housed_join [] ys (p ∷ ps) qs a b = absurd a
housed_join (x ∷ xs) ys [] qs a b = absurd a
housed_join (x ∷ xs) ys (p ∷ ps) qs a b = (a.0, housed_join xs ys ps qs a.1 b)

-- so blocks and symbols have room
pub room_follows : RoomFollows
room_follows size from mid end rooms data_rooms blocks symbols fits h =
    let all : List Extent = rooms ++ data_rooms in
    let f : FollowWithin from end all = follow_join from mid end rooms data_rooms h.follow h.data_follow (follow_le mid end data_rooms h.data_follow) in
    let z : AreIn all (sections_of blocks symbols) = housed_join rooms data_rooms (map block_section blocks) (map datum_section symbols) h.housed h.data_housed in
    record {
      blocks_above = h.blocks_above;
      symbols_above = h.symbols_above;
      inside = sections_inside size from end all (sections_of blocks symbols) fits f z;
      apart = sections_apart from end all (sections_of blocks symbols) f z;
    }
