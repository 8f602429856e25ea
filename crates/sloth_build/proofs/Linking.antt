-- What is gathered has room, and linked it is an image.
use Rattle.std.proofs.Common.{◌≡◌, ◌≤◌, ◌<◌, ◌+◌, ◌%◌, ℕ, List, [], ◌++◌, length, refl, sym, ap, ◌∙◌, subst, arith}
use Rattle.std.specs.Prelude.{All, get_or, slice_index}
use Rattle.std.specs.Prelude as prelude
use Rattle.std.specs.List.Sorted.{IsPermutation, IsStrictlyIncreasing}
use Rattle.std.proofs.lemmas.List.{get_or_default}
use Rattle.std.proofs.Math.ListN.{length-map}
use Rattle.sloth_base.specs.declared.app.App.{App}
use Rattle.sloth_base.specs.declared.config.Config.{Config}
use Rattle.sloth_base.specs.declared.image.Image.{Image}
use Rattle.sloth_base.specs.declared.image.Mark.{Mark}
use Rattle.sloth_base.specs.declared.limits.Bounds.{Bounds}
use Rattle.sloth_base.specs.declared.limits.Levels.{Levels}
use Rattle.sloth_region.specs.declared.region.Extent.{Extent}
use Rattle.sloth_region.specs.declared.region.Map.{Map}
use Rattle.sloth_region.specs.Region.{FollowWithin}
use Rattle.rv32_instr.specs.Range.{InRange}
use Rattle.rv32_instr.specs.declared.block.Block.{Block}
use Rattle.rv32_expand.specs.InPlace.{ItemsInPlace}
use Rattle.sim_induction.specs.Sound.{Sound}
use Rattle.sim_induction.specs.Items.{length_of}
use Rattle.sim_induction.specs.Weighed.{Weighed}
use Rattle.sim_induction.specs.Paced.{InPace}
use Rattle.sim_induction.proofs.Pacing.{paced_wider}
use Rattle.sim_induction.proofs.Wider.{spent_wider}
use Rattle.sim_relation.specs.Placed.{item_words}
use Rattle.sim_laws.proofs.Generated as kernels
use Rattle.sim_laws.proofs.KernelRuns as runs
use Rattle.sim_laws.specs.Kernel.{Kernel}
use Rattle.sim_laws.specs.TaskStates.{HasTaskStates}
use Rattle.sim_laws.proofs.Shown as states
use Rattle.mem_map.specs.Starts.{code_byte_count}
use Rattle.mem_map.specs.Plan.{code_end, code_extents, data_end, data_extents, items_at, prologues_at, ticks_at, services_at, symbol_bytes}
use Rattle.mem_map.specs.Planned.{IsPlanned}
use Rattle.mem_map.specs.Zones.{code_zone, data_zone}
use Rattle.stack_bounds.specs.Bounds.{AreBounds}
use Rattle.mem_map.proofs.Covering.{code_bytes_aligned, symbol_bytes_aligned}
use Rattle.mem_map.proofs.Starts.{end_aligned, length_starts}
use Rattle.sloth_link.specs.declared.linking.Datum.{Datum}
use Rattle.sloth_link.specs.Image.{MayLink, all_blocks, all_data, symbol_data, memory_size}
use Rattle.sloth_link.specs.Symbols.{alarm_data, data_of}
use Rattle.sloth_link.specs.Linked.{AreLinked, BlockStands, HaveRoom, datum_section, sections_of}
use Rattle.mem_map.specs.Sections.{HaveOwnAddresses, addresses, marks_of}
use Rattle.sloth_link.specs.Room.{AreIn}
use Rattle.sloth_link.proofs.AlarmRoom.{alarms_have_room}
use Rattle.sloth_link.proofs.Housed.{room_follows}
use Rattle.sim_laws.specs.GeneratedZones.{HasCode, HasItemBlocks, IsBuiltBy}
use Rattle.sim_laws.specs.Rooms.{FitRooms, FitsRoom, HasOwnMarks}
use Rattle.sim_laws.specs.Symbols.{HasSymbols, IsInData}
use Rattle.sim_laws.specs.Zones.{build_of}
use Rattle.sim_laws.proofs.Data.{symbols_are_in_data, symbols_are_in}
use Rattle.sim_laws.proofs.Fitting.{code_from, code_to, data_to}
use Rattle.sim_laws.proofs.Generating.{built_is_generated, built_is_in_place}
use Rattle.sim_laws.proofs.Housed.{blocks_are_in, blocks_are_in_code, marks_differ}
use Rattle.sloth_build.specs.Gathered.{MayGenerate, IsGathered, MarksInFormat}
use Rattle.sloth_build.specs.ImageOf.{IsImageOf}
use Rattle.sloth_build.proofs.AllCode.{even_at, zip_all}
use Rattle.sloth_build.proofs.Called.{called_with, room_for_calls}
use Rattle.sloth_build.proofs.Sizing.{words_fit}
use Rattle.sloth_base.specs.declared.service.Service.TheVariants as service
use Rattle.sloth_base.specs.Blocks.{block_number}
use Rattle.sloth_base.specs.MemoryMap.{vectors_base, memory_end, memory_base}
use Rattle.rv32_expand.specs.Expansion.{block_address}
use Rattle.service_gen.specs.Calls.{IsCalledWith}
use Rattle.service_gen.specs.Schedule.{way_back}

module _ (config : Config) (app : App) (levels : Levels) (map : Map) (bounds : Bounds) (are_bounds : AreBounds config app bounds) (p : IsPlanned config app bounds map) where
  pub has_symbols : HasSymbols map app
  has_symbols = record {
    count = count;
    aligned = λ k d l. subst (λ n. n % 4 ≡ 0) (get_or_default map.places.symbols k 0 d l) (p.covers.symbols k (omega (arith, count, l))).2;
    follow =
        (let From : ℕ → Type 0 = λ from. FollowWithin from (data_end app (code_end p.lengths)) (data_extents map app) in
        let To : ℕ → Type 0 = λ end. FollowWithin (data_zone map).base end (data_extents map app) in
        subst To (sym p.addresses.data_to) (subst From (sym p.addresses.data_from) p.data_follows));
  }
    where
      count : length map.places.symbols ≡ length app.symbols
      count = ap length p.addresses.symbols ∙ length_starts _ (prelude.map symbol_bytes app.symbols) ∙ length-map app.symbols symbol_bytes

  code_follows : FollowWithin (code_zone map).base ((code_zone map).base + (code_zone map).len) (code_extents map (length config.tasks) p.lengths)
  code_follows =
      let From : ℕ → Type 0 = λ from. FollowWithin from (code_end p.lengths) (code_extents map (length config.tasks) p.lengths) in
      let To : ℕ → Type 0 = λ end. FollowWithin (code_zone map).base end (code_extents map (length config.tasks) p.lengths) in
      subst To (sym p.addresses.code_to) (subst From (sym p.addresses.code_from) p.code_follows)

  end_even : data_end app (code_end p.lengths) % 4 ≡ 0
  end_even =
      let ticks = end_aligned (prologues_at p.lengths) (prelude.map code_byte_count p.lengths.prologues) (omega arith) (code_bytes_aligned p.lengths.prologues) in
      let services = end_aligned (ticks_at p.lengths) (prelude.map code_byte_count p.lengths.ticks) ticks (code_bytes_aligned p.lengths.ticks) in
      let items = end_aligned (services_at p.lengths) (prelude.map code_byte_count p.lengths.services) services (code_bytes_aligned p.lengths.services) in
      let code = end_aligned (items_at p.lengths) (prelude.map code_byte_count p.lengths.items) items (code_bytes_aligned p.lengths.items) in
      let symbols = end_aligned (code_end p.lengths) (prelude.map symbol_bytes app.symbols) code (symbol_bytes_aligned app) in
      omega (arith, symbols)

  pub data_above : vectors_base ≤ (data_zone map).base
  data_above = let f = code_from config app map bounds 0 [] p.zones in let t = code_to config app map bounds 0 [] p.zones in omega (arith, f, t)

  pub data_below : (data_zone map).base + (data_zone map).len ≤ memory_end
  data_below = data_to config app map bounds 0 [] p.zones

  module _ (blocks : List Block) (symbols : List Datum) (size : ℕ) (rooms : FitRooms (code_extents map (length config.tasks) p.lengths) blocks)
      (are : symbols ≡ data_of map.places.symbols app.symbols) (to : memory_base + size ≡ (data_zone map).base + (data_zone map).len) where
    pub have_room : HaveRoom size blocks symbols
    have_room =
        let data_in : All (IsInData map) symbols = subst (All (IsInData map)) (sym are) (symbols_are_in_data map app has_symbols) in
        let end = p.addresses.data_to in
        room_follows size vectors_base (code_end p.lengths) (data_end app (code_end p.lengths))
        (code_extents map (length config.tasks) p.lengths) (data_extents map app) blocks symbols (omega (arith, to, end))
        (record {
          blocks_above = zip_all FitsRoom (λ b. memory_base ≤ b.at) (code_extents map (length config.tasks) p.lengths) blocks
              (λ r b h. let at = h.at in let above = h.above in omega (arith, at, above)) rooms;
          symbols_above = λ k d l. let from = (data_in k d l).from in let above = data_above in omega (arith, from, above);
          follow = p.code_follows;
          data_follow = p.data_follows;
          housed = blocks_are_in (code_extents map (length config.tasks) p.lengths) blocks rooms;
          data_housed = subst (λ ds. AreIn (data_extents map app) (prelude.map datum_section ds)) (sym are) (symbols_are_in map app (let above = data_above in omega (arith, above)) has_symbols);
        })

    -- all stand behind the service words
    pub blocks_behind : All (λ b. vectors_base ≤ b.at) blocks
    blocks_behind = λ k d l.
        let inside = (blocks_are_in_code map (code_extents map (length config.tasks) p.lengths) blocks code_follows rooms k d l).from in
        let from = code_from config app map bounds 0 [] p.zones in
        omega (arith, inside, from)

    pub symbols_behind : All (λ d. vectors_base ≤ d.at) symbols
    symbols_behind = λ k d l.
        let data_in : All (IsInData map) symbols = subst (All (IsInData map)) (sym are) (symbols_are_in_data map app has_symbols) in
        let from = (data_in k d l).from in
        let above = data_above in
        omega (arith, from, above)

    pub own_addresses : HaveOwnAddresses (marks_of blocks)
    own_addresses = marks_differ (code_zone map).base _ (code_extents map (length config.tasks) p.lengths) blocks code_follows rooms

    pub image_of : (memory : List ℕ) (marks : List Mark) → HasCode config app levels map blocks → HasItemBlocks config app map.places blocks → length blocks ≤ 8192
        → All (MarksInFormat config app) blocks → All (λ b. All InRange b.code) blocks → AreLinked size (sections_of blocks (alarm_data 0 config.alarms ++ symbols)) memory
        → All (BlockStands memory) blocks → ((i : ℕ) → slice_index memory i < 256) → IsPermutation (marks_of blocks) marks → IsStrictlyIncreasing (addresses marks)
        → IsImageOf config app levels map memory marks
    image_of memory marks has_code has_items few format range linked code bytes moved rising = record {
      size = size;
      blocks = blocks;
      symbols = alarm_data 0 config.alarms ++ symbols;
      bounds = bounds;
      linked = record {
        zones = p.zones;
        has_stacks = p.stacks;
        calls_fit = room_for_calls config app bounds are_bounds;
        small = (let end = data_below in omega (arith, to, end));
        in_code = blocks_are_in_code map (code_extents map (length config.tasks) p.lengths) blocks code_follows rooms;
        in_range = range;
        has_symbols = has_symbols;
        data_are = ap (λ (ds : List Datum). alarm_data 0 config.alarms ++ ds) are;
        room = alarms_have_room size blocks symbols config.alarms has_items.well_formed.in_range.configuration.few_alarms
            (let above = data_above in omega (arith, to, above)) blocks_behind symbols_behind have_room;
        linked = linked;
        code = code;
      };
      has_code = has_code;
      has_items = has_items;
      whole_words = (let e = end_even in let d = p.addresses.data_to in omega (arith, to, e, d));
      ends = (let l = linked.size_is in omega (arith, to, l));
      few = few;
      few_marks = zip_all FitsRoom (λ b. length b.marks ≤ 2) (code_extents map (length config.tasks) p.lengths) blocks (λ r b h. h.few) rooms;
      format = format;
      own_marks = zip_all FitsRoom HasOwnMarks (code_extents map (length config.tasks) p.lengths) blocks (λ r b h. h.marks) rooms;
      marks_are = moved;
      ascending = rising;
      bytes = bytes;
    }

-- ---- what is gathered may be linked

module _ (config : Config) (app : App) (levels : Levels) (map : Map) (may : MayGenerate config app levels map) (blocks : List Block)
    (g : IsGathered config app levels map blocks) where
  to : memory_base + memory_size map ≡ (data_zone map).base + (data_zone map).len
  to = let above = data_above config app levels map g.bounds g.are_bounds g.planned in omega (arith, above)

  pub may_link : MayLink config app map blocks
  may_link =
      let extents = ap (λ (es : List Extent). length es) g.planned.zones.extents in
      let end = data_below config app levels map g.bounds g.are_bounds g.planned in
      record {
        well_formed = may.well_formed;
        named = may.named;
        agree = g.planned.agree;
        covers = g.planned.covers;
        symbols = (has_symbols config app levels map g.bounds g.are_bounds g.planned).count;
        zones = omega (arith, extents);
        above = data_above config app levels map g.bounds g.are_bounds g.planned;
        below = omega (arith, end);
        room = have_room config app levels map g.bounds g.are_bounds g.planned (all_blocks app map blocks) (symbol_data app map) (memory_size map) g.rooms refl to;
        blocks_behind = blocks_behind config app levels map g.bounds g.are_bounds g.planned (all_blocks app map blocks) (symbol_data app map) (memory_size map) g.rooms refl to;
        symbols_behind = symbols_behind config app levels map g.bounds g.are_bounds g.planned (all_blocks app map blocks) (symbol_data app map) (memory_size map) g.rooms refl to;
        routines = g.routines;
        own_addresses = own_addresses config app levels map g.bounds g.are_bounds g.planned (all_blocks app map blocks) (symbol_data app map) (memory_size map) g.rooms refl to;
      }

  -- and linked it is an image
  pub linked_image : (memory : List ℕ) (marks : List Mark) → All (λ b. All InRange b.code) (all_blocks app map blocks)
      → AreLinked (memory_size map) (sections_of (all_blocks app map blocks) (all_data config app map)) memory → All (BlockStands memory) (all_blocks app map blocks)
      → ((i : ℕ) → slice_index memory i < 256) → IsPermutation (marks_of (all_blocks app map blocks)) marks → IsStrictlyIncreasing (addresses marks)
      → IsImageOf config app levels map memory marks
  linked_image memory marks =
      image_of config app levels map g.bounds g.are_bounds g.planned (all_blocks app map blocks) (symbol_data app map) (memory_size map) g.rooms refl to memory marks
      g.code g.items g.few g.format

module _ (config : Config) (app : App) (levels : Levels) (map : Map) (may : MayGenerate config app levels map) (image : Image)
    (h : IsImageOf config app levels map image.memory image.marks) (tasks : image.tasks ≡ prelude.map (λ d. d.name) config.tasks)
    (functions : image.funcs ≡ prelude.map (λ f. f.name) app.funcs) (counters : image.counters ≡ prelude.map (λ c. c.name) config.counters) where
  -- the way back stands in Schedule's block
  abbrev way : ℕ
  way = block_address map.places service.Schedule 0 + way_back

  way_even : way % 4 ≡ 0
  way_even =
      let even = even_at map.places.blocks (block_number service.Schedule 0) may.planned.zones.blocks_aligned in
      let is : block_address map.places service.Schedule 0 ≡ get_or map.places.blocks (block_number service.Schedule 0) 0 = refl in
      omega (arith, even, is)

  built : IsBuiltBy config app levels map h.bounds way h.size h.blocks h.symbols image
  built = record {
    are_levels = may.are_levels;
    counters = counters;
    linked = h.linked;
    has_code = h.has_code;
    has_items = h.has_items;
    own_marks = h.own_marks;
    marks = h.marks_are;
    ascending = h.ascending;
    names = record { functions = functions; tasks = tasks; bodies = may.named };
    bytes = h.bytes;
    back_aligned = way_even;
    back_is = λ func item call is e s.
        let object = called_with config app may.well_formed func item call is e in
        let none : call.object ≡ 0 = subst (λ v. IsCalledWith config v call.object) s object in
        sym (ap (λ v. block_address map.places v call.object + way_back) s ∙ ap (λ o. block_address map.places service.Schedule o + way_back) none);
  }

  pub in_place : ItemsInPlace image config app
  in_place = built_is_in_place config app levels map h.bounds way h.size h.blocks h.symbols image built

  kernel : Kernel (build_of config app map h.bounds way image.memory) image
  kernel = kernels.generated_kernel (build_of config app map h.bounds way image.memory) image levels map (built_is_generated config app levels map h.bounds way h.size h.blocks h.symbols image built)

  pub sound : Sound config app image
  sound = runs.sound_kernel (build_of config app map h.bounds way image.memory) image kernel

  pub weighed : Weighed config app image
  weighed = runs.weighed_kernel (build_of config app map h.bounds way image.memory) image kernel

  pub paced : InPace config app image
  paced = record {
    paced = λ lengths are.
        paced_wider config app (item_words (build_of config app map h.bounds way image.memory)) (length_of lengths)
        (words_fit (build_of config app map h.bounds way image.memory) (config, may.well_formed) may.planned.agree lengths are) image
        (runs.paced_kernel (build_of config app map h.bounds way image.memory) image kernel);
    spent = λ lengths are.
        spent_wider config app (item_words (build_of config app map h.bounds way image.memory)) (length_of lengths)
        (words_fit (build_of config app map h.bounds way image.memory) (config, may.well_formed) may.planned.agree lengths are) image
        (runs.spent_kernel (build_of config app map h.bounds way image.memory) image kernel);
  }

  pub shows : HasTaskStates config app image
  shows = states.kernel_shows (build_of config app map h.bounds way image.memory) image kernel
