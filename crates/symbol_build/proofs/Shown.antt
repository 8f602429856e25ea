-- What a built image is made from can be shown.
use Rattle.std.proofs.Common.{◌≡◌, ◌≤◌, ◌+◌, ◌%◌, ◌∙◌, ℕ, zero, suc, List, [], ◌∷◌, length, get_or, refl, sym, ap, subst, arith}
use Rattle.std.specs.Prelude.{All, map, sum}
use Rattle.std.proofs.lemmas.List.Sums.{sum_by-cons}
use Rattle.sloth_base.specs.Limits.{item_limit}
use Rattle.sloth_base.specs.MemoryMap.{memory_base, memory_end}
use Rattle.sloth_base.specs.declared.app.App.{App}
use Rattle.sloth_base.specs.declared.app.Func.{Func}
use Rattle.sloth_base.specs.declared.config.Config.{Config}
use Rattle.sloth_base.specs.declared.limits.Bounds.{Bounds}
use Rattle.sloth_region.specs.declared.region.Extent.{Extent}
use Rattle.sloth_region.specs.declared.region.Map.{Map}
use Rattle.code_rules.specs.WellFormed.{WellFormed}
use Rattle.mem_map.proofs.Covering.{code_bytes_aligned}
use Rattle.mem_map.proofs.Ends.{end_above}
use Rattle.mem_map.proofs.Starts.{end_aligned}
use Rattle.mem_map.specs.Planned.{IsPlanned}
use Rattle.mem_map.specs.StackParts.{no_extent}
use Rattle.mem_map.specs.Stacks.{address_behind_data}
use Rattle.mem_map.specs.Starts.{code_byte_count, end_of, starts}
use Rattle.mem_map.specs.Zones.{all_stacks, code_zone, data_zone}
use Rattle.mem_map.specs.Plan.{items_at, prologues_at, services_at, ticks_at}
use Rattle.map_text.specs.LineRows.{item_count}
use Rattle.map_text.specs.Borders.{HasBorders}
use Rattle.map_text.specs.declared.line_places.Origins.{Origins}
use Rattle.symbol_image.specs.FileParts.{MayShow}
use Rattle.symbol_image.specs.FrameRows.{HasFrames}
use Rattle.symbol_build.specs.SymbolFiles.{parts_of}

-- ---- limits

-- the items of all bodies
counted : (funcs : List Func) → item_count funcs ≡ sum (map (λ f. length f.items) funcs)
counted [] = refl
counted (f ∷ funcs) =
    ap (λ (n : ℕ). length f.items + n) (counted funcs)
    ∙ sym (sum_by-cons (λ (n : ℕ). n) (length f.items) (map (λ (g : Func). length g.items) funcs))

-- ---- addresses

-- one of pieces that follow each other stands no later than where they end
start_within : (from : ℕ) (lens : List ℕ) (k d : ℕ) → d ≤ end_of from lens → get_or (starts from lens) k d ≤ end_of from lens
start_within from [] k d h = h
start_within from (len ∷ lens) zero d h = let above = end_above (from + len) lens in omega (arith, above)
start_within from (len ∷ lens) (suc k) d h = start_within (from + len) lens k d h

module _ (config : Config) (app : App) (bounds : Bounds) (m : Map) (well : WellFormed config app) (p : IsPlanned config app bounds m) where
  ends_all : All (λ e. e.base + e.len ≤ memory_end) m.extents
  ends_all = λ k d l. (p.zones.apart.inside k d l).2

  stacks_all : All (λ e. e.base + e.len ≤ memory_end) (all_stacks m)
  stacks_all =
      let each : All (λ e. e.base + e.len ≤ memory_end) (m.words ∷ code_zone m ∷ data_zone m ∷ all_stacks m) =
      subst (λ (es : List Extent). All (λ e. e.base + e.len ≤ memory_end) es) p.zones.extents ends_all in
      λ k d l. each (suc (suc (suc k))) d (omega (arith, l))

  code_even : (data_zone m).base % 4 ≡ 0
  code_even =
      let ticks = end_aligned (prologues_at p.lengths) (map code_byte_count p.lengths.prologues) (omega arith) (code_bytes_aligned p.lengths.prologues) in
      let services = end_aligned (ticks_at p.lengths) (map code_byte_count p.lengths.ticks) ticks (code_bytes_aligned p.lengths.ticks) in
      let items = end_aligned (services_at p.lengths) (map code_byte_count p.lengths.services) services (code_bytes_aligned p.lengths.services) in
      let code = end_aligned (items_at p.lengths) (map code_byte_count p.lengths.items) items (code_bytes_aligned p.lengths.items) in
      let from = p.addresses.data_from in
      omega (arith, code, from)

  borders : (memory : ℕ) → memory_base + memory ≡ address_behind_data m → HasBorders m memory
  borders memory ends =
      let long = ap (λ (l : List Extent). length l) p.zones.extents in
      let last = ends_all 2 no_extent (omega (arith, long)) in
      let f = p.addresses.code_from in
      let t = p.addresses.code_to in
      let d = p.addresses.data_from in
      record {
        zones = omega (arith, long);
        behind_words = omega (arith, f, t, d);
        even = code_even;
        ends = ends;
        fits = omega (arith, ends, last);
        stacks = stacks_all;
      }

  frames : HasFrames app m.places (data_zone m).base
  frames =
      let few : item_count app.funcs ≤ item_limit = subst (λ (n : ℕ). n ≤ item_limit) (sym (counted app.funcs)) well.in_range.limits.few_items in
      record {
        few = few;
        words = λ k d l. (well.in_range.bodies k d l).frame;
        room = λ k.
            let near = p.near in
            let from = p.addresses.data_from in
            let at : get_or (starts (items_at p.lengths) (map code_byte_count p.lengths.items)) k (data_zone m).base
            ≤ end_of (items_at p.lengths) (map code_byte_count p.lengths.items) =
            start_within (items_at p.lengths) (map code_byte_count p.lengths.items) k (data_zone m).base (omega (arith, from)) in
            let is = ap (λ (l : List ℕ). get_or l k (data_zone m).base) p.addresses.items in
            omega (arith, near, at, is);
      }

  pub may_show : (name : List ℕ) (origins : Origins) (memory : List ℕ) → memory_base + length memory ≡ address_behind_data m
      → MayShow (parts_of name origins config app m memory)
  may_show name origins memory ends =
      let tasks = p.zones.few_tasks in
      let counters = well.in_range.configuration.few_counters in
      let alarms = well.in_range.configuration.few_alarms in
      let resources = well.in_range.configuration.few_resources in
      record {
        words = record { tasks = tasks; counters = counters; alarms = alarms; resources = omega (arith, resources) };
        borders = borders (length memory) ends;
        frames = frames;
      }
