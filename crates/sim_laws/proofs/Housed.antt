-- Blocks in extents that follow one another.
use Rattle.std.proofs.Common.{◌≡◌, ◌≢◌, ◌≤◌, ◌<◌, ◌+◌, ◌*◌, ◌∙◌, ℕ, zero, suc, List, [], ◌∷◌, ◌++◌, length, get_or, subst, arith}
use Rattle.std.specs.Prelude.{All}
use Rattle.std.proofs.lemmas.List.Elements.{All-nil, All-cons}
use Rattle.sloth_base.specs.declared.image.Mark.{Mark}
use Rattle.sloth_region.specs.declared.region.Extent.{Extent}
use Rattle.sloth_region.specs.declared.region.Map.{Map}
use Rattle.sloth_region.specs.Region.{FollowWithin}
use Rattle.rv32_instr.specs.declared.block.Block.{Block}
use Rattle.mem_map.specs.Zones.{code_zone}
use Rattle.mem_map.specs.Sections.{addresses, marks_of}
use Rattle.sloth_link.proofs.Written.{code_bytes_length}
use Rattle.sim_laws.specs.Zones.{IsInCode}
use Rattle.sim_laws.specs.Rooms.{FitRooms, FollowClosely, MarksRise, BlocksAreIn, BlocksAreInCode, BlocksFollowClosely, MarksDiffer}
use Rattle.sim_laws.proofs.Following.{ends}

pub blocks_are_in : BlocksAreIn
blocks_are_in [] [] h = tt
blocks_are_in [] (b ∷ blocks) h = absurd h
blocks_are_in (r ∷ rooms) [] h = absurd h
blocks_are_in (r ∷ rooms) (b ∷ blocks) h =
    let l = code_bytes_length b.code in
    let at = h.0.at in
    let above = h.0.above in
    let long = h.0.long in
    ((omega (arith, at, above), omega (arith, at, above, long, l)), blocks_are_in rooms blocks h.1)

pub blocks_follow_closely : BlocksFollowClosely
blocks_follow_closely from end [] [] c h = c
blocks_follow_closely from end [] (b ∷ blocks) c h = absurd h
blocks_follow_closely from end (r ∷ rooms) [] c h = absurd h
blocks_follow_closely from end (r ∷ rooms) (b ∷ blocks) c h =
    let at = h.0.at in
    let long = h.0.long in
    let same : r.base + r.len ≡ b.at + 4 * length b.code = omega (arith, at, long) in
    let P : ℕ → Type 0 = λ free. FollowClosely free end blocks in
    (at ∙ c.0, subst P same (blocks_follow_closely (r.base + r.len) end rooms blocks c.1 h.1))

-- ---- the zone of code

in_code : (map : Map) (from : ℕ) (rooms : List Extent) (blocks : List Block) → (code_zone map).base ≤ from
    → FollowWithin from ((code_zone map).base + (code_zone map).len) rooms → FitRooms rooms blocks → All (IsInCode map) blocks
in_code map from [] [] le f h = All-nil (IsInCode map)
in_code map from [] (b ∷ blocks) le f h = absurd h
in_code map from (r ∷ rooms) [] le f h = absurd h
in_code map from (r ∷ rooms) (b ∷ blocks) le f h =
    let at = h.0.at in
    let aligned = h.0.aligned in
    let long = h.0.long in
    let a = f.0 in
    let end = ends (r.base + r.len) ((code_zone map).base + (code_zone map).len) rooms f.2 in
    All-cons (IsInCode map) b blocks
    (record { aligned = omega (arith, at, aligned); from = omega (arith, at, le, a); to = omega (arith, at, long, end) })
    (in_code map (r.base + r.len) rooms blocks (omega (arith, le, a)) f.2 h.1)

pub blocks_are_in_code : BlocksAreInCode
blocks_are_in_code map rooms blocks f h = in_code map (code_zone map).base rooms blocks (omega arith) f h

-- ---- marks

-- each number is greater than the one before it, and the first is not below a bound
abbrev Rises : ℕ → List ℕ → Type 0
Rises from [] = Unit {0}
Rises from (n ∷ numbers) = (from ≤ n) × Rises (n + 1) numbers

from_less : (from bound : ℕ) (numbers : List ℕ) → from ≤ bound → Rises bound numbers → Rises from numbers
from_less from bound [] le r = tt
from_less from bound (n ∷ numbers) le r = let a = r.0 in (omega (arith, le, a), r.1)

joined : (from base end : ℕ) (marks more : List Mark) → from ≤ base → base ≤ end → length marks ≤ 2 → MarksRise marks
    → All (λ (mark : Mark). (base ≤ mark.address) × (mark.address < end)) marks → Rises end (addresses more) → Rises from (addresses (marks ++ more))
joined from base end [] more a b few rise h r = from_less from end (addresses more) (omega (arith, a, b)) r
joined from base end (m ∷ []) more a b few rise h r =
    let i = h 0 m (omega arith) in
    (omega (arith, a, i.0), from_less (m.address + 1) end (addresses more) (omega (arith, i.1)) r)
joined from base end (m ∷ n ∷ []) more a b few rise h r =
    let i = h 0 m (omega arith) in
    let j = h 1 m (omega arith) in
    let up = rise.0 in
    (omega (arith, a, i.0), (omega (arith, up), from_less (n.address + 1) end (addresses more) (omega (arith, j.1)) r))
joined from base end (m ∷ n ∷ o ∷ marks) more a b few rise h r = absurd (omega (arith, few))

marks_rise : (from end : ℕ) (rooms : List Extent) (blocks : List Block) → FollowWithin from end rooms → FitRooms rooms blocks → Rises from (addresses (marks_of blocks))
marks_rise from end [] [] f h = tt
marks_rise from end [] (b ∷ blocks) f h = absurd h
marks_rise from end (r ∷ rooms) [] f h = absurd h
marks_rise from end (r ∷ rooms) (b ∷ blocks) f h =
    let at = h.0.at in
    let long = h.0.long in
    joined from r.base (r.base + r.len) b.marks (marks_of blocks) f.0 (omega arith) h.0.few h.0.rising
    (λ k d l. let m = h.0.marks k d l in (omega (arith, at, m.0), omega (arith, at, long, m.1)))
    (marks_rise (r.base + r.len) end rooms blocks f.2 h.1)

least : (from : ℕ) (numbers : List ℕ) → Rises from numbers → (j d : ℕ) → j < length numbers → from ≤ get_or numbers j d
least from [] r j d l = absurd (omega (arith, l))
least from (n ∷ numbers) r zero d l = r.0
least from (n ∷ numbers) r (suc j) d l = let a = r.0 in let b = least (n + 1) numbers r.1 j d (omega (arith, l)) in omega (arith, a, b)

differ : (from : ℕ) (numbers : List ℕ) → Rises from numbers → (i j d : ℕ) → i < j → j < length numbers → get_or numbers i d ≢ get_or numbers j d
differ from [] r i j d a b = absurd (omega (arith, b))
differ from (n ∷ numbers) r zero zero d a b = absurd (omega (arith, a))
differ from (n ∷ numbers) r (suc i) zero d a b = absurd (omega (arith, a))
differ from (n ∷ numbers) r zero (suc j) d a b = λ e. let l = least (n + 1) numbers r.1 j d (omega (arith, b)) in omega (arith, e, l)
differ from (n ∷ numbers) r (suc i) (suc j) d a b = differ (n + 1) numbers r.1 i j d (omega (arith, a)) (omega (arith, b))

pub marks_differ : MarksDiffer
marks_differ from end rooms blocks f h = λ i j d a b. differ from (addresses (marks_of blocks)) (marks_rise from end rooms blocks f h) i j d a b
