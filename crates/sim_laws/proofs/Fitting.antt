-- What the zones of an image give.
use Rattle.std.proofs.Common.{◌≡◌, ◌≢◌, ◌≤◌, ◌<◌, ◌+◌, ◌-◌, ◌%◌, ℕ, zero, suc, true, List, [], ◌∷◌, length, get_or, refl, sym, ap, subst, inl, inr, ⊎_elim, arith}
use Rattle.std.specs.Prelude.{All, nat_le, nat_lt, slice_index_or}
use Rattle.std.proofs.lemmas.Bool.{leb-true, ltb-true, le-leb, lt-ltb, and_parts, and_from, false_from_ne_true}
use Rattle.sloth_base.specs.declared.app.App.{App}
use Rattle.sloth_base.specs.declared.config.Config.{Config}
use Rattle.sloth_region.specs.declared.region.Extent.{Extent}
use Rattle.sloth_region.specs.declared.region.Map.{Map}
use Rattle.sloth_region.specs.Region.{FollowWithin}
use Rattle.sloth_region.proofs.Placed.{apart_within}
use Rattle.rv32_instr.specs.declared.block.Block.{Block}
use Rattle.rv32_instr.specs.Range.{InRange}
use Rattle.masked_code.proofs.Routines.{in_place}
use Rattle.sim_relation.specs.Build.{Build, HasFittingPlaces, IsElsewhere}
use Rattle.sim_relation.specs.Placed.{IsPlaced}
use Rattle.sim_relation.specs.Stands.{AreStacksApart}
use Rattle.sloth_link.specs.Linked.{BlockStands}
use Rattle.mem_map.specs.Zones.{HasZones, code_zone, data_zone, all_stacks}
use Rattle.mem_map.specs.StackParts.{no_extent}
use Rattle.mem_map.specs.Stacks.{HasStacks, top_of}
use Rattle.sloth_base.specs.declared.limits.Bounds.{Bounds}
use Rattle.sloth_base.specs.MemoryMap.{memory_base, memory_end, words_base, vectors_base}
use Rattle.stack_bounds.specs.Bounds.{MayMeet, bytes_of}
use Rattle.sim_laws.specs.Nested.{HasNestedParts}
use Rattle.sim_laws.specs.Symbols.{HasSymbols}
use Rattle.sim_laws.specs.Zones.{IsInCode, RoomForCalls, HasFewAlarms, is_in, build_of, ZonesFit, StacksAreApart, BlocksArePlaced}
use Rattle.sim_laws.proofs.Data.{symbols_are_apart}
use Rattle.sim_laws.proofs.Following.{follow_from_apart, ends}

-- ---- tests

inside : (e : Extent) (i : ℕ) → is_in e i ≡ true → (e.base ≤ memory_base + i) × (memory_base + i < e.base + e.len)
inside e i h =
    let p = and_parts (nat_le e.base (memory_base + i)) (nat_lt (memory_base + i) (e.base + e.len)) h in
    (leb-true _ _ p.0, ltb-true _ _ p.1)

pub here : (e : Extent) (i : ℕ) → e.base ≤ memory_base + i → memory_base + i < e.base + e.len → is_in e i ≡ true
here e i a b = and_from (nat_le e.base (memory_base + i)) (nat_lt (memory_base + i) (e.base + e.len)) (le-leb _ _ a) (lt-ltb _ _ b)

-- ---- numbers that are multiples of 4

aligned_at : (xs : List ℕ) (k : ℕ) → All (λ address. address % 4 ≡ 0) xs → get_or xs k 0 % 4 ≡ 0
aligned_at [] zero h = refl
aligned_at [] (suc k) h = refl
aligned_at (x ∷ xs) zero h = h 0 0 (omega arith)
aligned_at (x ∷ xs) (suc k) h = aligned_at xs k (λ j d l. h (suc j) d (omega arith))

module _ (config : Config) (app : App) (map : Map) (bounds : Bounds) (back : ℕ) (memory : List ℕ) (z : HasZones map config) where
  abbrev b : Build
  b = build_of config app map bounds back memory

  follow : FollowWithin words_base memory_end (map.words ∷ code_zone map ∷ data_zone map ∷ all_stacks map)
  follow = subst (FollowWithin words_base memory_end) z.extents (follow_from_apart words_base memory_end map.extents z.apart (omega arith))

  pub code_from : vectors_base ≤ (code_zone map).base
  code_from =
      let w = follow.2.0 in
      let base = ap (λ (e : Extent). e.base) z.words in
      let len = ap (λ (e : Extent). e.len) z.words in
      omega (arith, w, base, len)

  pub code_to : (code_zone map).base + (code_zone map).len ≤ (data_zone map).base
  code_to = follow.2.2.0

  stacks_follow : FollowWithin ((data_zone map).base + (data_zone map).len) memory_end (all_stacks map)
  stacks_follow = follow.2.2.2

  -- a task's part lies behind the data
  pub part_inside : HasStacks config app bounds map → (t : ℕ) → t < length config.tasks
      → ((data_zone map).base + (data_zone map).len + bytes_of bounds t ≤ top_of map t) × (top_of map t ≤ memory_end)
  part_inside s t l =
      let among = s.among t l in
      let h = (apart_within _ _ (all_stacks map) stacks_follow).inside among.0 no_extent among.1 in
      let base = ap (λ (e : Extent). e.base) among.2 in
      let len = ap (λ (e : Extent). e.len) among.2 in
      let above = s.above t l in
      let within = s.within t l in
      (omega (arith, h.0, base, above), omega (arith, h.2, base, len, within))

  pub end_of_code : (code_zone map).base + (code_zone map).len ≤ memory_end
  end_of_code = let s = ends _ _ (all_stacks map) stacks_follow in let c = code_to in omega (arith, s, c)

  pub data_to : (data_zone map).base + (data_zone map).len ≤ memory_end
  data_to = ends _ _ (all_stacks map) stacks_follow

  elsewhere : (i : ℕ) → IsElsewhere b i → (vectors_base ≤ memory_base + i) × (memory_base + i < (data_zone map).base + (data_zone map).len)
  elsewhere i (inl h) = let p = inside (code_zone map) i h in let f = code_from in let t = code_to in (omega (arith, p.0, f), omega (arith, p.1, t))
  elsewhere i (inr h) = let p = inside (data_zone map) i h in let f = code_from in let t = code_to in (omega (arith, p.0, f, t), p.1)

  pub fits : HasFewAlarms config → HasStacks config app bounds map → RoomForCalls bounds config app → HasSymbols map app → back % 4 ≡ 0 → HasFittingPlaces b
  fits few parts calls has back_aligned = record {
    few_tasks = z.few_tasks;
    few_counters = few.0;
    few_alarms = few.1;
    elsewhere = λ i e. let h = (elsewhere i e).0 in omega (arith, h);
    outside = λ t i l e. let h = elsewhere i e in let s = part_inside parts t l in inl (omega (arith, h.1, s.0));
    apart = λ i e. false_from_ne_true (is_in (data_zone map) i) (λ d. let p = inside (code_zone map) i e in let q = inside (data_zone map) i d in let c = code_to in omega (arith, p.1, q.0, c));
    items = λ func index. aligned_at map.places.items (get_or map.places.first func 0 + index) z.items_aligned;
    blocks = λ func index call e. aligned_at map.places.blocks _ z.blocks_aligned;
    data_inside = λ i e. let p = inside (data_zone map) i e in let d = data_to in omega (arith, p.1, d);
    symbols = λ y. aligned_at map.places.symbols y has.aligned;
    symbols_apart = symbols_are_apart map app has;
    idle_address = z.idle_aligned;
    back_address = back_aligned;
    from = λ t l. let s = part_inside parts t l in let c = code_to in let f = code_from in omega (arith, s.0, c, f);
    to = λ t l. let s = part_inside parts t l in let a = parts.whole t l in let c = code_to in let f = code_from in (omega (arith, s.1), omega (arith, a, s.0, c, f));
    room = λ t l func outer called. let s = part_inside parts t l in let enough = calls t l func outer called in let c = code_to in let f = code_from in omega (arith, enough, s.0, c, f);
  }

  pub stacks_apart : HasStacks config app bounds map → (t u : ℕ) → t < length config.tasks → u < length config.tasks → u ≢ t → MayMeet config app t u → AreStacksApart b t u
  stacks_apart s t u l m ne may =
      ⊎_elim
      (λ (x : top_of map t + bytes_of bounds u ≤ top_of map u). inl (omega (arith, x)))
      (λ (x : top_of map u + bytes_of bounds t ≤ top_of map t). inr (omega (arith, x)))
      (s.apart t u l m (λ e. ne (sym e)) may)

  pub parts_nested : HasStacks config app bounds map → HasNestedParts b
  parts_nested s t u basic other may less = let below = s.nested t u basic other may less in omega (arith, below)

  pub placed : (block : Block) → All InRange block.code → IsInCode map block → BlockStands memory block → IsPlaced b (block.at - memory_base) block.code
  placed block r c s =
      let f = code_from in
      let e = end_of_code in
      let from = c.from in
      let to = c.to in
      let al = c.aligned in
      record {
        aligned = omega (arith, al, f, from);
        inside = omega (arith, f, from, to, e);
        is_code = λ i a l. here (code_zone map) i (omega (arith, a, f, from)) (omega (arith, l, f, from, to));
        placed = in_place memory (block.at - memory_base) block.code r s;
      }

pub zones_fit : ZonesFit
zones_fit config app map bounds back memory z few parts calls has = fits config app map bounds back memory z few parts calls has

pub stacks_are_apart : StacksAreApart
stacks_are_apart config app map bounds back memory z s = stacks_apart config app map bounds back memory z s

pub blocks_are_placed : BlocksArePlaced
blocks_are_placed config app map bounds back memory blocks z r c s = λ k d l. placed config app map bounds back memory z (slice_index_or blocks k d) (r k d l) (c k d l) (s k d l)
