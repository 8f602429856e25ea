-- The addresses of a map, and what they give.
use Rattle.std.proofs.Common.{◌≡◌, ◌≤◌, ◌<◌, ◌+◌, ◌-◌, ◌%◌, ◌∙◌, ◌⊎◌, ⊎_elim, inl, inr, ℕ, List, ◌++◌, length, get_or, take, refl, sym, ap, subst, arith}
use Rattle.std.specs.Prelude.{All, map, sum_by, slice_index}
use Rattle.std.proofs.lemmas.List.{get_or-take, length-map}
use Rattle.std.proofs.lemmas.List.Elements.{All-map}
use Rattle.std.proofs.lemmas.List.Sums.{sum-map, get_or-le-sum_by}
use Rattle.sloth_base.specs.declared.app.App.{App}
use Rattle.sloth_base.specs.declared.app.Func.{Func}
use Rattle.sloth_base.specs.declared.app.Symbol.{Symbol}
use Rattle.sloth_base.specs.declared.config.Config.{Config}
use Rattle.sloth_base.specs.Owners.{counter_line, first_counter_line}
use Rattle.sloth_region.specs.declared.region.Extent.{Extent}
use Rattle.sloth_region.specs.declared.region.Map.{Map}
use Rattle.sloth_region.specs.Region.{FollowWithin}
use Rattle.std.proofs.lemmas.Bool.{cases_lt}
use Rattle.sloth_base.specs.declared.limits.Bounds.{Bounds}
use Rattle.sloth_base.specs.Limits.{task_limit, counter_limit, item_limit, data_limit}
use Rattle.sloth_base.specs.MemoryMap.{vectors_base, memory_bytes, line_count}
use Rattle.mem_map.specs.Starts.{end_of, starts}
use Rattle.mem_map.specs.Run.{extents_of, AreClose}
use Rattle.mem_map.specs.declared.all_lengths.CodeLengths.{CodeLengths}
use Rattle.mem_map.specs.Plan.{MayPlan, HasAddresses, IsSmallPrologue, IsSmallTick, IsInVectorReach, prologues_at, ticks_at, tick_starts, services_at, items_at, code_end, data_end, symbol_bytes, some_extents, code_extents, data_extents}
use Rattle.mem_map.specs.Starts.{code_byte_count}
use Rattle.mem_map.proofs.Bounds.{sizes_few, before_all, pieces_end, symbols_end, services_end, IsSize}
use Rattle.mem_map.proofs.Covering.{ArePlaced, code_bytes_aligned}
use Rattle.mem_map.proofs.Starts.{stands, end_above, end_aligned, starts_aligned, length_starts, follow_from, extents_follow, extents_before, some_follow, extents_close, close_before, some_close}

-- ---- what is needed before there are addresses

module _ (config : Config) (app : App) (lengths : CodeLengths) (bounds : Bounds) (offsets : List ℕ) (may : MayPlan config app lengths bounds offsets) where
  abbrev n : ℕ
  n = length config.tasks

  -- what is asked of task code limits the tasks
  pub few_tasks : n ≤ task_limit
  few_tasks = may.in_range.configuration.few_tasks

  items_sum : sum_by (λ (f : Func). length f.items) app.funcs ≤ item_limit
  items_sum = let s = sum-map (λ (f : Func). length f.items) app.funcs in let h = may.in_range.limits.few_items in omega (arith, s, h)

  symbols_sum : sum_by (λ (y : Symbol). length y.bytes) app.symbols ≤ data_limit
  symbols_sum = let s = sum-map (λ (y : Symbol). length y.bytes) app.symbols in let h = may.in_range.limits.few_bytes in omega (arith, s, h)

  -- the items of each function
  pub counts_few : All (λ (f : Func). length f.items ≤ item_limit) app.funcs
  counts_few = λ k d l. let o = get_or-le-sum_by (λ (f : Func). length f.items) app.funcs k d l in let h = items_sum in omega (arith, h, o)

  -- the bytes of each symbol
  pub symbols_few : All (λ (y : Symbol). length y.bytes ≤ data_limit) app.symbols
  symbols_few = λ k d l. let o = get_or-le-sum_by (λ (y : Symbol). length y.bytes) app.symbols k d l in let h = symbols_sum in omega (arith, h, o)

  sizes_are : All IsSize lengths.items
  sizes_are = sizes_few config app lengths.items may.in_range may.code.items

  -- and the length of each piece of code
  pub sizes_small : All (λ (size : ℕ). size ≤ 2048) lengths.items
  sizes_small = λ k d l. let s = sizes_are k d l in let most = s.1 in omega (arith, most)

  pub starts_small : All (λ (size : ℕ). size ≤ 2048) lengths.prologues
  starts_small = λ k d l. let s = may.code.prologues_fit k d l in let most = s.1 in omega (arith, most)

  pub ticks_small : All (λ (size : ℕ). size ≤ 2048) lengths.ticks
  ticks_small = λ k d l. let s = may.code.ticks_fit k d l in let most = s.1 in omega (arith, most)

  -- a prologue for each task, and a tick for each counter
  pub few_starts : length lengths.prologues ≤ task_limit
  few_starts = let c = may.code.prologues in let f = few_tasks in omega (arith, c, f)

  pub few_ticks : length lengths.ticks ≤ counter_limit
  few_ticks = let c = may.code.ticks in let f = may.in_range.configuration.few_counters in omega (arith, c, f)

  ticks_short : services_at lengths ≤ ticks_at lengths + 8792
  ticks_short =
      let e = pieces_end 1099 IsSmallTick (λ n h. h.1) (ticks_at lengths) lengths.ticks may.code.ticks_fit in
      let f = few_ticks in
      omega (arith, e, f)

  prologues_short : ticks_at lengths ≤ prologues_at lengths + 17280
  prologues_short =
      let e = pieces_end 144 IsSmallPrologue (λ n h. h.1) (prologues_at lengths) lengths.prologues may.code.prologues_fit in
      let f = few_starts in
      omega (arith, e, f)

  -- how long the services are at most
  pub services_short : items_at lengths ≤ services_at lengths + 357376
  services_short = services_end (services_at lengths) lengths.services may.code.services may.code.services_fit may.code.objects

  -- how long the items
  pub items_short : code_end lengths ≤ items_at lengths + 589824
  items_short =
      let e = pieces_end 36 IsSize (λ n h. h.1) (items_at lengths) lengths.items sizes_are in
      let c = may.code.items.count in
      let b = before_all app.funcs in
      let s = items_sum in
      omega (arith, e, c, b, s)

  -- all code is near
  pub code_short : code_end lengths ≤ 0x8010_0370
  code_short = let a = services_short in let b = items_short in let c = prologues_short in let d = ticks_short in let f = may.code.boot.1 in omega (arith, a, b, c, d, f)

  -- and in reach of the vector words
  pub code_near : code_end lengths < 0x8010_0400
  code_near = let h = code_short in omega (arith, h)

  -- how long the symbols
  pub symbols_short : data_end app (code_end lengths) ≤ code_end lengths + 33540
  symbols_short =
      let e = symbols_end (code_end lengths) app.symbols in
      let s = symbols_sum in
      let f = may.in_range.limits.few_symbols in
      omega (arith, e, s, f)

  -- ---- multiples of 4

  -- every part of the code begins at a multiple of 4
  pub ticks_even : ticks_at lengths % 4 ≡ 0
  ticks_even = end_aligned (prologues_at lengths) (map code_byte_count lengths.prologues) (omega arith) (code_bytes_aligned lengths.prologues)

  pub services_even : services_at lengths % 4 ≡ 0
  services_even = end_aligned (ticks_at lengths) (map code_byte_count lengths.ticks) ticks_even (code_bytes_aligned lengths.ticks)

  pub items_even : items_at lengths % 4 ≡ 0
  items_even = end_aligned (services_at lengths) (map code_byte_count lengths.services) services_even (code_bytes_aligned lengths.services)

  pub code_even : code_end lengths % 4 ≡ 0
  code_even = end_aligned (items_at lengths) (map code_byte_count lengths.items) items_even (code_bytes_aligned lengths.items)

  -- and no part before the end of the one below it
  pub ticks_behind : prologues_at lengths ≤ ticks_at lengths
  ticks_behind = end_above (prologues_at lengths) (map code_byte_count lengths.prologues)

  pub ticks_above : ticks_at lengths ≤ services_at lengths
  ticks_above = end_above (ticks_at lengths) (map code_byte_count lengths.ticks)

  pub prologues_above : prologues_at lengths ≤ services_at lengths
  prologues_above = let a = ticks_behind in let b = ticks_above in omega (arith, a, b)

  pub services_above : services_at lengths ≤ items_at lengths
  services_above = end_above (services_at lengths) (map code_byte_count lengths.services)

  pub items_above : items_at lengths ≤ code_end lengths
  items_above = end_above (items_at lengths) (map code_byte_count lengths.items)

  pub symbols_above : code_end lengths ≤ end_of (code_end lengths) (map symbol_bytes app.symbols)
  symbols_above = end_above (code_end lengths) (map symbol_bytes app.symbols)

  -- where the code and the symbols end
  pub record AreEnds (code_to data_to : ℕ) : Type 0 where
    pub some : vectors_base < code_to
    pub below : code_to ≤ data_to
    pub fits : data_to + 4 < 4294967296
    pub even : (code_to - vectors_base) % 4 ≡ 0
    pub room : 1024 + (code_to - vectors_base) + 3 + (data_to + 4 - code_to) + 3 + 983490 ≤ memory_bytes

  -- those of the code and of the symbols are so
  pub ends_are : (code_to data_to : ℕ) → code_to ≡ code_end lengths → data_to ≡ end_of code_to (map symbol_bytes app.symbols) → AreEnds code_to data_to
  ends_are code_to data_to e f =
      let g = ap (λ (from : ℕ). end_of from (map symbol_bytes app.symbols)) e in
      let first = prologues_above in
      let low = services_above in
      let mid = items_above in
      let high = symbols_above in
      let short = code_short in
      let symbols = symbols_short in
      let even = code_even in
      record {
        some = omega (arith, e, first, low, mid);
        below = omega (arith, e, f, g, high);
        fits = omega (arith, f, g, symbols, short);
        even = omega (arith, e, even, first, low, mid);
        room = omega (arith, e, f, g, symbols, short, first, low, mid, high);
      }

  symbol_some : All (λ (y : ℕ). 1 ≤ y) (map symbol_bytes app.symbols)
  symbol_some = All-map (λ (y : ℕ). 1 ≤ y) symbol_bytes app.symbols (λ k d l. let h = may.in_range.symbols k d l in omega (arith, h))

  start_some : All (λ (y : ℕ). 1 ≤ y) (map code_byte_count lengths.prologues)
  start_some = All-map (λ (y : ℕ). 1 ≤ y) code_byte_count lengths.prologues (λ k d l. let h = may.code.prologues_fit k d l in let s = h.0 in omega (arith, s))

  tick_some : All (λ (y : ℕ). 1 ≤ y) (map code_byte_count lengths.ticks)
  tick_some = All-map (λ (y : ℕ). 1 ≤ y) code_byte_count lengths.ticks (λ k d l. let h = may.code.ticks_fit k d l in let s = h.0 in omega (arith, s))

  item_some : All (λ (y : ℕ). 1 ≤ y) (map code_byte_count lengths.items)
  item_some = All-map (λ (y : ℕ). 1 ≤ y) code_byte_count lengths.items (λ k d l. let h = sizes_are k d l in let s = h.0 in omega (arith, s))

  -- ---- of a map with these addresses

  module _ (plan : Map) (at : HasAddresses config app lengths plan) where
    -- the items, the symbols and the services stand where these begin
    pub placed : ArePlaced app lengths.items lengths.services plan.places (services_at lengths) (items_at lengths) (code_end lengths)
    placed = record {
      first = at.first;
      items = at.items;
      symbols = at.symbols;
      blocks = at.blocks;
      full = may.code.services;
      above = let a = prologues_above in omega (arith, a);
      services_to = omega arith;
      items_to = omega arith;
      near = code_short;
      symbols_to = let s = symbols_short in let c = code_short in omega (arith, s, c);
      services_aligned = services_even;
      items_aligned = items_even;
      symbols_aligned = code_even;
      items_some = item_some;
    }

    -- the address of a prologue
    pub start_is : (task : ℕ) → task < n → slice_index plan.handlers task ≡ get_or (starts (prologues_at lengths) (map code_byte_count lengths.prologues)) task 0
    start_is task l = sym (get_or-take n plan.handlers task 0 l) ∙ ap (λ (starts : List ℕ). get_or starts task 0) at.prologues

    -- a vector word can jump to it
    pub start_near : (task : ℕ) → task < n → IsInVectorReach (slice_index plan.handlers task)
    start_near task l =
        let is = start_is task l in
        let count = may.code.prologues in
        let long = length-map lengths.prologues code_byte_count in
        let all = length_starts (prologues_at lengths) (map code_byte_count lengths.prologues) in
        let s = stands (prologues_at lengths) (map code_byte_count lengths.prologues) task (omega (arith, l, count, long)) in
        let low = s.above in
        let high = s.below in
        let four = starts_aligned (prologues_at lengths) (map code_byte_count lengths.prologues) (omega arith) (code_bytes_aligned lengths.prologues) task 0 (omega (arith, l, count, long, all)) in
        let short = code_short in
        let ticks = ticks_above in
        let mid = services_above in
        let items = items_above in
        (omega (arith, is, four), omega (arith, is, low), omega (arith, is, high, short, ticks, mid, items))

    -- that of a tick
    pub tick_near : (c : ℕ) → c < length config.counters → IsInVectorReach (slice_index plan.handlers (counter_line c))
    tick_near c l =
        let is = at.ticks c l in
        let count = may.code.ticks in
        let long = length-map lengths.ticks code_byte_count in
        let all = length_starts (ticks_at lengths) (map code_byte_count lengths.ticks) in
        let s = stands (ticks_at lengths) (map code_byte_count lengths.ticks) c (omega (arith, l, count, long)) in
        let low = s.above in
        let high = s.below in
        let four = starts_aligned (ticks_at lengths) (map code_byte_count lengths.ticks) ticks_even (code_bytes_aligned lengths.ticks) c 0 (omega (arith, l, count, long, all)) in
        let short = code_short in
        let first = ticks_behind in
        let mid = services_above in
        let items = items_above in
        (omega (arith, is, four), omega (arith, is, low, first), omega (arith, is, high, short, mid, items))

    -- a vector word can jump to the code of each line
    pub reach : (line : ℕ) → line < line_count → IsInVectorReach (slice_index plan.handlers line)
    reach line h =
        let few = may.code.boot.1 in
        let e = at.idle in
        let counters : ℕ = length config.counters in
        let idle : (l : n ≤ line) (other : (line < task_limit) ⊎ (counter_line counters ≤ line)) → IsInVectorReach (slice_index plan.handlers line) = λ l other.
        let a = at.unused line l h other in
        (omega (arith, a, e), omega (arith, a, e), omega (arith, a, e, few))
        in
        ⊎_elim
        (λ (l : line < n). start_near line l)
        (λ (l : n ≤ line). ⊎_elim
        (λ (m : line < task_limit). idle l (inl m))
        (λ (m : first_counter_line ≤ line). ⊎_elim
        (λ (f : line - first_counter_line < counters).
        let same : counter_line (line - first_counter_line) ≡ line = omega (arith, m) in
        subst (λ k. IsInVectorReach (slice_index plan.handlers k)) same (tick_near (line - first_counter_line) f))
        (λ (f : counters ≤ line - first_counter_line). idle l (inr (omega (arith, m, f))))
        (cases_lt (line - first_counter_line) counters))
        (cases_lt line first_counter_line))
        (cases_lt line n)

    -- the extents of the code follow one another
    pub code_follows : FollowWithin vectors_base (code_end lengths) (code_extents plan n lengths)
    code_follows =
        let e = at.idle in
        let some = may.code.boot.0 in
        let end : ℕ = code_end lengths in
        let P : List ℕ → Type 0 = λ addresses. FollowWithin (items_at lengths) end (extents_of addresses (map code_byte_count lengths.items)) in
        let items = subst P (sym at.items) (extents_follow (items_at lengths) end (map code_byte_count lengths.items) item_some (omega arith)) in
        let Q : List ℕ → Type 0 = λ addresses. FollowWithin (services_at lengths) end (some_extents addresses lengths.services ++ extents_of plan.places.items (map code_byte_count lengths.items)) in
        let services = subst Q (sym at.blocks) (some_follow (services_at lengths) end lengths.services (extents_of plan.places.items (map code_byte_count lengths.items)) items) in
        let served : List Extent = some_extents plan.places.blocks lengths.services ++ extents_of plan.places.items (map code_byte_count lengths.items) in
        let rest : List Extent = extents_of (tick_starts lengths) (map code_byte_count lengths.ticks) ++ served in
        let ticks = extents_before (ticks_at lengths) end (map code_byte_count lengths.ticks) served tick_some services in
        let R : List ℕ → Type 0 = λ addresses. FollowWithin (prologues_at lengths) end (extents_of addresses (map code_byte_count lengths.prologues) ++ rest) in
        let prologues = subst R (sym at.prologues) (extents_before (prologues_at lengths) end (map code_byte_count lengths.prologues) rest start_some ticks) in
        let behind = follow_from (plan.idle + 4) (prologues_at lengths) end (extents_of (take n plan.handlers) (map code_byte_count lengths.prologues) ++ rest) (omega (arith, e)) prologues in
        (omega arith, omega arith, (omega arith, omega (arith, some), (omega (arith, e), omega arith, behind)))

    -- there is no hole in the code
    pub code_close : AreClose vectors_base (code_end lengths) (code_extents plan n lengths)
    code_close =
        let e = at.idle in
        let end : ℕ = code_end lengths in
        let P : List ℕ → Type 0 = λ addresses. AreClose (items_at lengths) end (extents_of addresses (map code_byte_count lengths.items)) in
        let items = subst P (sym at.items) (extents_close (items_at lengths) (map code_byte_count lengths.items)) in
        let Q : List ℕ → Type 0 = λ addresses. AreClose (services_at lengths) end (some_extents addresses lengths.services ++ extents_of plan.places.items (map code_byte_count lengths.items)) in
        let services = subst Q (sym at.blocks) (some_close (services_at lengths) end lengths.services (extents_of plan.places.items (map code_byte_count lengths.items)) items) in
        let served : List Extent = some_extents plan.places.blocks lengths.services ++ extents_of plan.places.items (map code_byte_count lengths.items) in
        let rest : List Extent = extents_of (tick_starts lengths) (map code_byte_count lengths.ticks) ++ served in
        let ticks = close_before (ticks_at lengths) end (map code_byte_count lengths.ticks) served services in
        let R : List ℕ → Type 0 = λ addresses. AreClose (prologues_at lengths) end (extents_of addresses (map code_byte_count lengths.prologues) ++ rest) in
        let prologues = subst R (sym at.prologues) (close_before (prologues_at lengths) end (map code_byte_count lengths.prologues) rest ticks) in
        let S : ℕ → Type 0 = λ free. AreClose free end (extents_of (take n plan.handlers) (map code_byte_count lengths.prologues) ++ rest) in
        let behind : prologues_at lengths ≡ plan.idle + 4 = omega (arith, e) in
        (refl, (refl, (e, subst S behind prologues)))

    -- and so do those of the symbols
    pub data_follows : FollowWithin (code_end lengths) (data_end app (code_end lengths)) (data_extents plan app)
    data_follows =
        let from : ℕ = code_end lengths in
        let P : List ℕ → Type 0 = λ addresses. FollowWithin from (data_end app from) (extents_of addresses (map symbol_bytes app.symbols)) in
        subst P (sym at.symbols) (extents_follow from (data_end app from) (map symbol_bytes app.symbols) symbol_some (omega arith))

    -- nor is there one in the data
    pub data_close : AreClose (code_end lengths) (end_of (code_end lengths) (map symbol_bytes app.symbols)) (data_extents plan app)
    data_close =
        let from : ℕ = code_end lengths in
        let P : List ℕ → Type 0 = λ addresses. AreClose from (end_of from (map symbol_bytes app.symbols)) (extents_of addresses (map symbol_bytes app.symbols)) in
        subst P (sym at.symbols) (extents_close from (map symbol_bytes app.symbols))

    -- items and services stand at multiples of 4
    pub items_all_even : All (λ address. address % 4 ≡ 0) plan.places.items
    items_all_even =
        let P : List ℕ → Type 0 = λ addresses. All (λ address. address % 4 ≡ 0) addresses in
        subst P (sym at.items) (starts_aligned (items_at lengths) (map code_byte_count lengths.items) items_even (code_bytes_aligned lengths.items))

    pub blocks_all_even : All (λ address. address % 4 ≡ 0) plan.places.blocks
    blocks_all_even =
        let P : List ℕ → Type 0 = λ addresses. All (λ address. address % 4 ≡ 0) addresses in
        subst P (sym at.blocks) (starts_aligned (services_at lengths) (map code_byte_count lengths.services) services_even (code_bytes_aligned lengths.services))
