-- Pieces right behind one another.
use Rattle.std.proofs.Common.{◌≡◌, ◌≤◌, ◌<◌, ◌+◌, ◌*◌, ◌%◌, ℕ, zero, suc, List, [], ◌∷◌, ◌++◌, length, get_or, drop, refl, ap, subst, arith}
use Rattle.std.specs.Prelude.{All, map}
use Rattle.std.proofs.lemmas.List.{drop_more}
use Rattle.std.proofs.lemmas.List.Elements.{All-cons}
use Rattle.sloth_region.specs.declared.region.Extent.{Extent}
use Rattle.sloth_region.specs.Region.{FollowWithin}
pub use Rattle.mem_map.proofs.Ends.{end_above}
use Rattle.mem_map.specs.Starts.{starts, end_of}
use Rattle.mem_map.specs.Run.{extents_of, AreClose}
use Rattle.mem_map.specs.Starts.{code_byte_count}
use Rattle.mem_map.specs.Plan.{some_extents}

-- each piece has a start
pub length_starts : (from : ℕ) (lengths : List ℕ) → length (starts from lengths) ≡ length lengths
length_starts from [] = refl
length_starts from (len ∷ lengths) = ap suc (length_starts (from + len) lengths)

-- where a piece stands, and that it ends by the end
pub record Stands (from : ℕ) (lengths : List ℕ) (k : ℕ) : Type 0 where
  pub above : from ≤ get_or (starts from lengths) k 0
  pub below : get_or (starts from lengths) k 0 + get_or lengths k 0 ≤ end_of from lengths

-- each piece does so
pub stands : (from : ℕ) (lengths : List ℕ) (k : ℕ) → k < length lengths → Stands from lengths k
stands from [] k h = absurd (omega (arith, h))
stands from (len ∷ lengths) zero h = record { above = omega arith; below = end_above (from + len) lengths }
stands from (len ∷ lengths) (suc k) h =
    let r = stands (from + len) lengths k (omega (arith, h)) in
    let a = r.above in
    record { above = omega (arith, a); below = r.below }

-- the next one
pub next : (from : ℕ) (lengths : List ℕ) (k : ℕ) → suc k < length lengths → get_or (starts from lengths) (suc k) 0 ≡ get_or (starts from lengths) k 0 + get_or lengths k 0
next from [] k h = absurd (omega (arith, h))
next from (len ∷ []) k h = absurd (omega (arith, h))
next from (len ∷ (other ∷ lengths)) zero h = refl
next from (len ∷ (other ∷ lengths)) (suc k) h = next (from + len) (other ∷ lengths) k (omega (arith, h))

-- ---- in a loop

-- the next piece ends by the end
pub next_fits : (free bound : ℕ) (lengths : List ℕ) (i : ℕ) → i < length lengths → end_of free (drop i lengths) ≡ bound → bound < 4294967296
    → free + get_or lengths i 0 < 4294967296
next_fits free bound lengths i h e fits =
    let cut = ap (end_of free) (drop_more lengths i 0 h) in
    let a = end_above (free + get_or lengths i 0) (drop (i + 1) lengths) in
    omega (arith, cut, e, a, fits)

-- ---- multiples of 4

-- pieces of whole words begin at multiples of 4
pub starts_aligned : (from : ℕ) (lengths : List ℕ) → from % 4 ≡ 0 → All (λ len. len % 4 ≡ 0) lengths → All (λ address. address % 4 ≡ 0) (starts from lengths)
starts_aligned from [] e all = λ k d l. absurd (omega (arith, l))
starts_aligned from (len ∷ lengths) e all =
    let f = all 0 0 (omega arith) in
    All-cons (λ address. address % 4 ≡ 0) from (starts (from + len) lengths) e
    (starts_aligned (from + len) lengths (omega (arith, e, f)) (λ k d l. all (suc k) d (omega (arith, l))))

-- and end at one
pub end_aligned : (from : ℕ) (lengths : List ℕ) → from % 4 ≡ 0 → All (λ len. len % 4 ≡ 0) lengths → end_of from lengths % 4 ≡ 0
end_aligned from [] e all = e
end_aligned from (len ∷ lengths) e all =
    let f = all 0 0 (omega arith) in
    end_aligned (from + len) lengths (omega (arith, e, f)) (λ k d l. all (suc k) d (omega (arith, l)))

-- ---- extents

-- they may begin later
pub follow_from : (from free end : ℕ) (extents : List Extent) → from ≤ free → FollowWithin free end extents → FollowWithin from end extents
follow_from from free end [] le f = omega (arith, le, f)
follow_from from free end (e ∷ extents) le f = let h = f.0 in (omega (arith, le, h), f.1, f.2)

-- pieces that are right behind one another follow one another
pub extents_follow : (from end : ℕ) (lengths : List ℕ) → All (λ len. 1 ≤ len) lengths → end_of from lengths ≤ end
    → FollowWithin from end (extents_of (starts from lengths) lengths)
extents_follow from end [] some le = le
extents_follow from end (len ∷ lengths) some le =
    (omega arith, some 0 0 (omega arith), extents_follow (from + len) end lengths (λ k d l. some (suc k) d (omega (arith, l))) le)

-- the same before other extents
pub extents_before : (from end : ℕ) (lengths : List ℕ) (rest : List Extent) → All (λ len. 1 ≤ len) lengths → FollowWithin (end_of from lengths) end rest
    → FollowWithin from end (extents_of (starts from lengths) lengths ++ rest)
extents_before from end [] rest some f = f
extents_before from end (len ∷ lengths) rest some f =
    (omega arith, some 0 0 (omega arith), extents_before (from + len) end lengths rest (λ k d l. some (suc k) d (omega (arith, l))) f)

-- pieces of code of which some have no instruction
pub some_follow : (from end : ℕ) (sizes : List ℕ) (rest : List Extent) → FollowWithin (end_of from (map code_byte_count sizes)) end rest
    → FollowWithin from end (some_extents (starts from (map code_byte_count sizes)) sizes ++ rest)
some_follow from end [] rest f = f
some_follow from end (zero ∷ sizes) rest f =
    follow_from from (from + 0) end (some_extents (starts (from + 0) (map code_byte_count sizes)) sizes ++ rest) (omega arith)
    (some_follow (from + 0) end sizes rest f)
some_follow from end (suc size ∷ sizes) rest f = (omega arith, omega arith, some_follow (from + 4 * suc size) end sizes rest f)

-- ---- no hole

-- extents right behind one another
pub extents_close : (from : ℕ) (lengths : List ℕ) → AreClose from (end_of from lengths) (extents_of (starts from lengths) lengths)
extents_close from [] = refl
extents_close from (len ∷ lengths) = (refl, extents_close (from + len) lengths)

-- the same before other extents
pub close_before : (from end : ℕ) (lengths : List ℕ) (rest : List Extent) → AreClose (end_of from lengths) end rest
    → AreClose from end (extents_of (starts from lengths) lengths ++ rest)
close_before from end [] rest c = c
close_before from end (len ∷ lengths) rest c = (refl, close_before (from + len) end lengths rest c)

-- pieces of code of which some have no instruction
pub some_close : (from end : ℕ) (sizes : List ℕ) (rest : List Extent) → AreClose (end_of from (map code_byte_count sizes)) end rest
    → AreClose from end (some_extents (starts from (map code_byte_count sizes)) sizes ++ rest)
some_close from end [] rest c = c
some_close from end (zero ∷ sizes) rest c =
    let same : from + 0 ≡ from = omega arith in
    let P : ℕ → Type 0 = λ free. AreClose free end (some_extents (starts (from + 0) (map code_byte_count sizes)) sizes ++ rest) in
    subst P same (some_close (from + 0) end sizes rest c)
some_close from end (suc size ∷ sizes) rest c = (refl, some_close (from + 4 * suc size) end sizes rest c)
