-- The map that is made of these addresses and zones.
use Rattle.std.proofs.Common.{◌≡◌, ◌≤◌, ◌<◌, ◌+◌, ◌-◌, ◌∙◌, ◌⊎◌, ⊎_elim, inl, inr, ℕ, List, ◌∷◌, length, get_or, drop, take, sym, ap, arith}
use Rattle.std.specs.Prelude.{map, slice_index}
use Rattle.sloth_base.specs.declared.app.App.{App}
use Rattle.sloth_base.specs.declared.config.Config.{Config}
use Rattle.sloth_base.specs.Owners.{first_counter_line, counter_line}
use Rattle.sloth_region.specs.declared.region.Extent.{Extent}
use Rattle.sloth_region.specs.declared.region.Map.{Map}
use Rattle.sloth_region.specs.Region.{AreApartWithin}
use Rattle.sloth_base.specs.declared.limits.Bounds.{Bounds}
use Rattle.sloth_base.specs.Limits.{task_limit}
use Rattle.sloth_base.specs.MemoryMap.{vectors_base, memory_end, words_base, line_count}
use Rattle.mem_map.specs.declared.all_lengths.CodeLengths.{CodeLengths}
use Rattle.mem_map.specs.Starts.{starts, end_of}
use Rattle.mem_map.specs.Zones.{code_zone, data_zone, all_stacks, HasZones}
use Rattle.mem_map.specs.StackParts.{no_extent}
use Rattle.mem_map.specs.Plan.{MayPlan, HasAddresses, idle_at, prologues_at, tick_starts, services_at, items_at, code_end, symbol_bytes}
use Rattle.mem_map.specs.Starts.{code_byte_count}
use Rattle.mem_map.proofs.Planned.{few_tasks, prologues_above, services_above, items_above, symbols_above, items_all_even, blocks_all_even}

module _ (config : Config) (app : App) (lengths : CodeLengths) (bounds : Bounds) (offsets : List ℕ) (may : MayPlan config app lengths bounds offsets) (plan : Map) where
  abbrev n : ℕ
  n = length config.tasks

  abbrev end : ℕ
  end = code_end lengths

  -- what the zones are
  pub record HasExtents (code data_extent : Extent) (code_to data_to : ℕ) : Type 0 where
    pub all : List Extent
    pub extents : plan.extents ≡ plan.words ∷ code ∷ data_extent ∷ all
    pub code_is : code ≡ record { base = vectors_base; len = code_to - vectors_base }
    pub data_is : data_extent ≡ record { base = vectors_base + (code_to - vectors_base); len = data_to + 4 - code_to }
    pub code_end_is : code_to ≡ end
    pub data_end_is : data_to ≡ end_of code_to (map symbol_bytes app.symbols)

  module _ (code data_extent : Extent) (code_to data_to : ℕ) (has : HasExtents code data_extent code_to data_to) where
    code_zone_is : code_zone plan ≡ code
    code_zone_is = ap (λ (l : List Extent). get_or l 1 no_extent) has.extents

    data_zone_is : data_zone plan ≡ data_extent
    data_zone_is = ap (λ (l : List Extent). get_or l 2 no_extent) has.extents

    ends : end_of code_to (map symbol_bytes app.symbols) ≡ end_of end (map symbol_bytes app.symbols)
    ends = ap (λ (from : ℕ). end_of from (map symbol_bytes app.symbols)) has.code_end_is

    -- what the calls give
    pub addressed : plan.idle ≡ idle_at lengths → length plan.handlers ≡ line_count
        → take (length lengths.prologues) plan.handlers ≡ starts (prologues_at lengths) (map code_byte_count lengths.prologues)
        → ((c : ℕ) → c < length lengths.ticks → slice_index plan.handlers (counter_line c) ≡ get_or (tick_starts lengths) c 0)
        → ((line : ℕ) → length lengths.prologues ≤ line → line < line_count → (line < first_counter_line) ⊎ (counter_line (length lengths.ticks) ≤ line)
        → slice_index plan.handlers line ≡ plan.idle)
        → plan.places.blocks ≡ starts (services_at lengths) (map code_byte_count lengths.services)
        → plan.places.items ≡ starts (items_at lengths) (map code_byte_count lengths.items)
        → plan.places.first ≡ starts 0 (map (λ f. length f.items) app.funcs)
        → plan.places.symbols ≡ starts code_to (map symbol_bytes app.symbols)
        → HasAddresses config app lengths plan
    addressed idle lines prologues ticks unused blocks items first symbols =
        let count = may.code.prologues in
        let counters = may.code.ticks in
        let start = prologues_above config app lengths bounds offsets may in
        let low = services_above config app lengths bounds offsets may in
        let mid = items_above config app lengths bounds offsets may in
        let high = symbols_above config app lengths bounds offsets may in
        let c = code_zone_is ∙ has.code_is in
        let d = data_zone_is ∙ has.data_is in
        let code_from = ap (λ (e : Extent). e.base) c in
        let code_len = ap (λ (e : Extent). e.len) c in
        let data_from = ap (λ (e : Extent). e.base) d in
        let data_len = ap (λ (e : Extent). e.len) d in
        let e = has.code_end_is in
        let f = has.data_end_is in
        let g = ends in
        record {
          idle = idle;
          lines = lines;
          prologues = ap (λ (k : ℕ). take k plan.handlers) (sym count) ∙ prologues;
          ticks = λ c l. ticks c (omega (arith, l, counters));
          unused = λ line l m other. unused line (omega (arith, l, count)) m
              (⊎_elim (λ (b : line < task_limit). inl b) (λ (b : counter_line (length config.counters) ≤ line). inr (omega (arith, b, counters))) other);
          blocks = blocks;
          items = items;
          first = first;
          symbols = symbols ∙ ap (λ (from : ℕ). starts from (map symbol_bytes app.symbols)) e;
          code_from = code_from;
          code_to = omega (arith, code_from, code_len, e, start, low, mid);
          data_from = omega (arith, data_from, e, start, low, mid);
          data_to = omega (arith, data_from, data_len, e, f, g, start, low, mid, high);
        }

    -- behind the third extent there are the stacks
    pub all_stacks_are : all_stacks plan ≡ has.all
    all_stacks_are = ap (λ (l : List Extent). drop 3 l) has.extents

    -- so it has its zones
    pub zoned : HasAddresses config app lengths plan → plan.words ≡ record { base = words_base; len = 1020 } → AreApartWithin words_base memory_end plan.extents
        → HasZones plan config
    zoned at words apart = record {
      extents =
          has.extents ∙ ap (λ (e : Extent). plan.words ∷ e ∷ data_extent ∷ has.all) (sym code_zone_is)
          ∙ ap (λ (e : Extent). plan.words ∷ code_zone plan ∷ e ∷ has.all) (sym data_zone_is)
          ∙ ap (λ (l : List Extent). plan.words ∷ code_zone plan ∷ data_zone plan ∷ l) (sym all_stacks_are);
      words = words;
      apart = apart;
      few_tasks = few_tasks config app lengths bounds offsets may;
      items_aligned = items_all_even config app lengths bounds offsets may plan at;
      blocks_aligned = blocks_all_even config app lengths bounds offsets may plan at;
      idle_aligned = let i = at.idle in omega (arith, i);
    }
