-- Symbols one behind the other in the zone of data.
use Rattle.std.proofs.Common.{◌≡◌, ◌≤◌, ◌<◌, ◌+◌, ℕ, zero, suc, List, [], ◌∷◌, length, get_or, refl, ap, ⊎_elim, arith}
use Rattle.std.specs.Prelude.{All}
use Rattle.std.specs.Prelude as prelude
use Rattle.std.proofs.lemmas.Bool.{cases_lt}
use Rattle.std.proofs.lemmas.List.Elements.{All-nil, All-cons}
use Rattle.std.proofs.Math.ListN.{get_or-map, length-map}
use Rattle.sloth_base.specs.Named.{no_symbol}
use Rattle.sloth_base.specs.declared.app.App.{App}
use Rattle.sloth_base.specs.declared.app.Symbol.{Symbol}
use Rattle.sloth_base.specs.MemoryMap.{memory_base}
use Rattle.sloth_region.specs.declared.region.Extent.{Extent}
use Rattle.sloth_region.specs.declared.region.Map.{Map}
use Rattle.sloth_region.specs.Region.{FollowWithin, aligned}
use Rattle.sloth_region.proofs.Placed.{apart_within}
use Rattle.mem_map.specs.Plan.{symbol_bytes, data_extents}
use Rattle.mem_map.specs.Run.{extents_of}
use Rattle.mem_map.specs.Zones.{data_zone}
use Rattle.mem_map.specs.StackParts.{no_extent}
use Rattle.sloth_link.specs.Linked.{datum_section}
use Rattle.sloth_link.specs.Room.{AreIn}
use Rattle.sloth_link.specs.Symbols.{data_of}
use Rattle.sim_laws.specs.Symbols.{HasSymbols, IsInData, SymbolsAreInData, SymbolsAreIn, SymbolsAreApart}
use Rattle.sim_laws.proofs.Following.{ends}

-- the room of a symbol isn't shorter
room_enough : (n : ℕ) → n ≤ aligned n 4
room_enough n = omega arith

in_data : (map : Map) (from : ℕ) (addresses : List ℕ) (symbols : List Symbol) → length addresses ≡ length symbols → (data_zone map).base ≤ from
    → FollowWithin from ((data_zone map).base + (data_zone map).len) (extents_of addresses (prelude.map symbol_bytes symbols)) → All (IsInData map) (data_of addresses symbols)
in_data map from [] symbols n le f = All-nil (IsInData map)
in_data map from (a ∷ addresses) [] n le f = absurd (omega (arith, n))
in_data map from (a ∷ addresses) (s ∷ symbols) n le f =
    let enough = room_enough (length s.bytes) in
    let first = f.0 in
    let end = ends (a + symbol_bytes s) ((data_zone map).base + (data_zone map).len) (extents_of addresses (prelude.map symbol_bytes symbols)) f.2 in
    All-cons (IsInData map) (record { at = a; bytes = s.bytes }) (data_of addresses symbols)
    (record { from = omega (arith, le, first); to = omega (arith, enough, end) })
    (in_data map (a + symbol_bytes s) addresses symbols (omega (arith, n)) (omega (arith, le, first)) f.2)

pub symbols_are_in_data : SymbolsAreInData
symbols_are_in_data map app h = in_data map (data_zone map).base map.places.symbols app.symbols h.count (omega arith) h.follow

are_in : (from end : ℕ) (addresses : List ℕ) (symbols : List Symbol) → length addresses ≡ length symbols → memory_base ≤ from
    → FollowWithin from end (extents_of addresses (prelude.map symbol_bytes symbols)) → AreIn (extents_of addresses (prelude.map symbol_bytes symbols)) (prelude.map datum_section (data_of addresses symbols))
are_in from end [] symbols n le f = tt
are_in from end (a ∷ addresses) [] n le f = absurd (omega (arith, n))
are_in from end (a ∷ addresses) (s ∷ symbols) n le f =
    let enough = room_enough (length s.bytes) in
    let first = f.0 in
    ((omega (arith, le, first), omega (arith, le, first, enough)), are_in (a + symbol_bytes s) end addresses symbols (omega (arith, n)) (omega (arith, le, first)) f.2)

pub symbols_are_in : SymbolsAreIn
symbols_are_in map app from h = are_in (data_zone map).base ((data_zone map).base + (data_zone map).len) map.places.symbols app.symbols h.count from h.follow

-- ---- apart

pub extent_at : (addresses lengths : List ℕ) (k : ℕ) → length addresses ≡ length lengths → k < length lengths
    → get_or (extents_of addresses lengths) k no_extent ≡ record { base = get_or addresses k 0; len = get_or lengths k 0 }
extent_at [] lengths k n l = absurd (omega (arith, n, l))
extent_at (a ∷ addresses) [] k n l = absurd (omega (arith, l))
extent_at (a ∷ addresses) (len ∷ lengths) zero n l = refl
extent_at (a ∷ addresses) (len ∷ lengths) (suc k) n l = extent_at addresses lengths k (omega (arith, n)) (omega (arith, l))

pub extents_long : (addresses lengths : List ℕ) → length addresses ≡ length lengths → length (extents_of addresses lengths) ≡ length lengths
extents_long [] [] n = refl
extents_long [] (len ∷ lengths) n = absurd (omega (arith, n))
extents_long (a ∷ addresses) [] n = absurd (omega (arith, n))
extents_long (a ∷ addresses) (len ∷ lengths) n = let m = extents_long addresses lengths (omega (arith, n)) in omega (arith, m)

-- a symbol with a byte is there
has_byte : (symbols : List Symbol) (y i : ℕ) → i < length (get_or symbols y no_symbol).bytes → y < length symbols
has_byte [] zero i l = absurd (omega (arith, l))
has_byte [] (suc y) i l = absurd (omega (arith, l))
has_byte (s ∷ symbols) zero i l = omega arith
has_byte (s ∷ symbols) (suc y) i l = let h = has_byte symbols y i l in omega (arith, h)

in_order : (map : Map) (app : App) → HasSymbols map app → (y z : ℕ) → y < z → z < length app.symbols
    → get_or map.places.symbols y 0 + symbol_bytes (get_or app.symbols y no_symbol) ≤ get_or map.places.symbols z 0
in_order map app h y z lt l =
    let lengths : List ℕ = prelude.map symbol_bytes app.symbols in
    let n : length lengths ≡ length app.symbols = length-map app.symbols symbol_bytes in
    let count = h.count in
    let same : length map.places.symbols ≡ length lengths = omega (arith, n, count) in
    let long = extents_long map.places.symbols lengths same in
    let below = (apart_within _ _ (data_extents map app) h.follow).apart y z no_extent lt (omega (arith, long, n, l)) in
    let one = extent_at map.places.symbols lengths y same (omega (arith, lt, l, n)) in
    let other = extent_at map.places.symbols lengths z same (omega (arith, l, n)) in
    let base : (get_or (data_extents map app) y no_extent).base ≡ get_or map.places.symbols y 0 = ap (λ (e : Extent). e.base) one in
    let len : (get_or (data_extents map app) y no_extent).len ≡ get_or lengths y 0 = ap (λ (e : Extent). e.len) one in
    let size : get_or lengths y 0 ≡ symbol_bytes (get_or app.symbols y no_symbol) = get_or-map symbol_bytes app.symbols y no_symbol in
    let next : (get_or (data_extents map app) z no_extent).base ≡ get_or map.places.symbols z 0 = ap (λ (e : Extent). e.base) other in
    omega (arith, below, base, len, size, next)

pub symbols_are_apart : SymbolsAreApart
symbols_are_apart map app h y z i j differ a b = λ same.
    let ly = has_byte app.symbols y i a in
    let lz = has_byte app.symbols z j b in
    let ny = room_enough (length (get_or app.symbols y no_symbol).bytes) in
    let nz = room_enough (length (get_or app.symbols z no_symbol).bytes) in
    ⊎_elim
    (λ (lt : y < z). let o = in_order map app h y z lt lz in absurd (omega (arith, o, ny, a, same)))
    (λ (le : z ≤ y). let o = in_order map app h z y (omega (arith, le, differ)) ly in absurd (omega (arith, o, nz, b, same)))
    (cases_lt y z)
