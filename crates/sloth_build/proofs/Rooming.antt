-- Each block of the code lies in its room of the map.
use Rattle.std.proofs.Common.{◌≡◌, ◌≤◌, ◌<◌, ◌+◌, ◌*◌, ◌%◌, ℕ, zero, suc, Bool, true, false, Some, List, [], ◌∷◌, length, get_or, take, refl, sym, ap, ◌∙◌, subst, arith}
use Rattle.std.specs.Prelude.{All, cond, slice_index}
use Rattle.std.specs.Prelude as prelude
use Rattle.std.specs.List.{AllZip}
use Rattle.std.proofs.lemmas.List.{get_or-take, length-append, length-take-le}
use Rattle.std.proofs.lemmas.List.Elements.{All-nil, All-cons}
use Rattle.std.proofs.lemmas.Option.{get_or_from_slice_get, slice_get_within}
use Rattle.std.proofs.Math.ListN.{get_or-map, length-map}
use Rattle.sloth_base.specs.Named.{operation, no_function}
use Rattle.sloth_base.specs.Owners.{counter_line}
use Rattle.sloth_base.specs.declared.app.App.{App}
use Rattle.sloth_base.specs.declared.app.Func.{Func}
use Rattle.sloth_base.specs.declared.config.Config.{Config}
use Rattle.sloth_base.specs.declared.config.TaskDecl.{TaskDecl}
use Rattle.code_lengths.specs.CodeLengths.{block_length, prologue_length, IsPrologueLength}
use Rattle.code_rules.specs.AppRange.{HasBodies}
use Rattle.sloth_base.specs.declared.image.Mark.{Mark}
use Rattle.sloth_base.specs.declared.limits.Levels.{Levels}
use Rattle.sloth_base.specs.declared.service.Service.{Service}
use Rattle.sloth_base.specs.declared.service.Service.TheVariants as service
use Rattle.sloth_region.specs.declared.region.Extent.{Extent}
use Rattle.sloth_region.specs.declared.region.Map.{Map}
use Rattle.vector_gen.specs.Places.{IsTaskPrologue, start_level, first_item, frame_at}
use Rattle.vector_gen.proofs.BothKinds.{length_is}
use Rattle.rv32_instr.specs.declared.InstrKind.{InstrKind}
use Rattle.rv32_instr.specs.declared.block.Block.{Block}
use Rattle.rv32_expand.specs.Expansion.{is_long, item_address}
use Rattle.rv32_expand.specs.InPlace.{IsAppItem, item_mark}
use Rattle.rv32_expand.specs.Sizes.{items_before}
use Rattle.rv32_expand.proofs.Counts.{expanded_some}
use Rattle.service_gen.specs.TaskBlock.{further_marks}
use Rattle.block_parts.specs.Marks.{opening, back_mark}
use Rattle.service_gen.specs.Calls.{IsAnyServiceBlock}
use Rattle.service_gen.specs.Schedule.{way_back}
use Rattle.masked_code.specs.Kernel.{masking}
use Rattle.sloth_base.specs.Arithmetic.{sum32}
use Rattle.sloth_base.specs.Blocks.{block_count, block_code, block_object}
use Rattle.sloth_base.specs.MemoryMap.{memory_base}
use Rattle.mem_map.specs.declared.all_lengths.CodeLengths.{CodeLengths}
use Rattle.mem_map.specs.Starts.{code_byte_count}
use Rattle.mem_map.specs.Plan.{items_at, prologues_at, ticks_at, tick_starts, services_at, some_extents}
use Rattle.mem_map.specs.Run.{extents_of}
use Rattle.mem_map.specs.Starts.{starts}
use Rattle.mem_map.specs.Wanted.{wanted_blocks}
use Rattle.mem_map.specs.StackParts.{no_extent}
use Rattle.mem_map.proofs.Starts.{end_above, length_starts, stands}
use Rattle.mem_map.proofs.Wanting.{all_places, at_place}
use Rattle.sim_laws.proofs.Fitting.{end_of_code}
use Rattle.sim_laws.proofs.Serving.{some_code}
use Rattle.sim_laws.specs.Rooms.{FitRooms, FitsRoom, MarksRise}
use Rattle.sim_laws.proofs.Data.{extent_at, extents_long}
use Rattle.sloth_build.specs.Gathered.{MayGenerate}
use Rattle.sloth_link.specs.Items.{item_block, item_blocks}
use Rattle.sloth_build.specs.Prologues.{Each, IsPrologue}
use Rattle.sloth_build.specs.Ticks.{IsTickBlock}
use Rattle.sloth_build.specs.Services.{IsService, wanted_services_from}
use Rattle.sloth_link.proofs.Counting.{located, block_at, length_blocks}
use Rattle.sloth_build.proofs.Each.{zip_from}
use Rattle.sloth_build.proofs.Sizing.{size_of_item}
use Rattle.sloth_build.proofs.Starting.{first_is, items_long}

abbrev pub none : Block
none = record { at = 0; code = []; marks = [] }

-- a block without marks
pub plain : (room : Extent) (block : Block) → block.at ≡ room.base → memory_base ≤ room.base → room.base % 4 ≡ 0 → 4 * length block.code ≡ room.len → block.marks ≡ []
    → FitsRoom room block
plain room block at above aligned long is =
    let P : List Mark → Type 0 = λ marks. All (λ (m : Mark). (block.at ≤ m.address) × (m.address < block.at + 4 * length block.code)) marks in
    let n : length block.marks ≡ 0 = ap length is in
    record {
      at = at;
      above = above;
      aligned = aligned;
      long = long;
      few = omega (arith, n);
      rising = subst MarksRise (sym is) tt;
      marks = subst P (sym is) (All-nil (λ (m : Mark). (block.at ≤ m.address) × (m.address < block.at + 4 * length block.code)));
    }

-- a block with one mark
pub marked : (room : Extent) (block : Block) (mark : Mark) → block.at ≡ room.base → memory_base ≤ room.base → room.base % 4 ≡ 0 → 4 * length block.code ≡ room.len
    → block.marks ≡ mark ∷ [] → block.at ≤ mark.address → mark.address < block.at + 4 * length block.code → FitsRoom room block
marked room block mark at above aligned long is from to =
    let Q : Mark → Type 0 = λ m. (block.at ≤ m.address) × (m.address < block.at + 4 * length block.code) in
    let P : List Mark → Type 0 = λ marks. All Q marks in
    let n : length block.marks ≡ 1 = ap length is in
    record {
      at = at;
      above = above;
      aligned = aligned;
      long = long;
      few = omega (arith, n);
      rising = subst MarksRise (sym is) tt;
      marks = subst P (sym is) (All-cons Q mark [] (from, to) (All-nil Q));
    }

-- what a service's marks are in its block, of which the way back is the second
record HasServiceMarks (at bytes : ℕ) (marks : List Mark) : Type 0 where
  few : length marks ≤ 2
  rising : MarksRise marks
  own : All (λ (m : Mark). (at ≤ m.address) × (m.address < at + bytes)) marks

opening_alone : (at bytes code : ℕ) → 0 < bytes → HasServiceMarks at bytes (opening at code ∷ [])
opening_alone at bytes code some =
    let Q : Mark → Type 0 = λ m. (at ≤ m.address) × (m.address < at + bytes) in
    record { few = omega arith; rising = tt; own = All-cons Q (opening at code) [] (omega arith, omega arith) (All-nil Q) }

-- the way back stands behind the opening
with_back : (at bytes code : ℕ) → at + bytes < 4294967296 → way_back < bytes → HasServiceMarks at bytes (opening at code ∷ back_mark (sum32 at way_back) ∷ [])
with_back at bytes code room long =
    let Q : Mark → Type 0 = λ m. (at ≤ m.address) × (m.address < at + bytes) in
    record {
      few = omega arith;
      rising = (omega arith, tt);
      own = All-cons Q (opening at code) (back_mark (sum32 at way_back) ∷ []) (omega arith, omega arith)
          (All-cons Q (back_mark (sum32 at way_back)) [] (omega arith, omega arith) (All-nil Q));
    }

-- the marks of a service's block: the opening, and behind it Schedule's way back
service_marks : (config : Config) (s : Service) (object : ℕ) (levels : Levels) (code : List InstrKind) (at number : ℕ) → at + 4 * length code < 4294967296
    → IsAnyServiceBlock config s object levels code → HasServiceMarks at (4 * length code) (opening at number ∷ further_marks s at)
service_marks config service.Schedule object levels code at number room h =
    let again = h.runs.masks_again in
    let long = ap length again.2 ∙ length-append again.0 (masking ∷ again.1) in
    let behind = again.3 in
    with_back at (4 * length code) number room (omega (arith, long, behind))
service_marks config s object levels code at number room h =
    let some = some_code config s object levels code h in opening_alone at (4 * length code) number (omega (arith, some))

same_decl : (d e : TaskDecl) → Some d ≡ Some e → d ≡ e
same_decl d e is = cc

-- a prologue has the length that was told of it
start_long : (config : Config) (app : App) (levels : Levels) (map : Map) (t : ℕ) (code : List InstrKind) (size : ℕ) → HasBodies config app
    → IsTaskPrologue t config app levels map code → IsPrologueLength t config app size → length code ≡ size
start_long config app levels map t code size bodies e is =
    let long = length_is e.decl.extended t (start_level e.decl t levels) (first_item map.places e.body) (frame_at (slice_index map.tops t) e.func.frame_words) e.func.frame_words code e.enters in
    let decl : e.decl ≡ is.decl = same_decl e.decl is.decl (sym e.is_decl ∙ is.is_decl) in
    let its = get_or_from_slice_get app.funcs e.body e.func no_function e.is_func in
    let other = get_or_from_slice_get app.funcs is.body is.func no_function is.is_func in
    let body : e.body ≡ is.body = bodies.one t e.body is.body (slice_get_within app.funcs e.body e.func e.is_func, ap (λ (f : Func). f.task) its ∙ e.is_body)
    (slice_get_within app.funcs is.body is.func is.is_func, ap (λ (f : Func). f.task) other ∙ is.is_body) in
    let func : e.func ≡ is.func = sym its ∙ ap (λ (k : ℕ). get_or app.funcs k no_function) body ∙ other in
    long ∙ ap (λ (d : TaskDecl). prologue_length d.extended e.func.frame_words) decl ∙ ap (λ (f : Func). prologue_length is.decl.extended f.frame_words) func ∙ sym is.is

module _ (config : Config) (app : App) (levels : Levels) (map : Map) (may : MayGenerate config app levels map) where
  abbrev wanted : List Bool
  wanted = wanted_blocks app

  abbrev lengths : CodeLengths
  lengths = may.planned.lengths

  prologue_room : (k : ℕ) (block : Block) → k < length config.tasks → IsPrologue config app levels map k block
      → FitsRoom (record { base = slice_index map.handlers k; len = code_byte_count (get_or lengths.prologues k 0) }) block
  prologue_room k block l p =
      let few = may.well_formed.in_range.configuration.few_tasks in
      let near = may.planned.reach k (omega (arith, l, few)) in
      let behind = near.1 in
      let long = start_long config app levels map k block.code (get_or lengths.prologues k 0) may.well_formed.in_range.tasks p.enters (may.planned.are_lengths.each_prologue k l) in
      plain (record { base = slice_index map.handlers k; len = code_byte_count (get_or lengths.prologues k 0) }) block p.at (omega (arith, behind)) near.0 (omega (arith, long)) p.marks

  pub prologues_fit : (starts : List Block) → length starts ≡ length config.tasks → Each (IsPrologue config app levels map) starts
      → FitRooms (extents_of (take (length config.tasks) map.handlers) (prelude.map code_byte_count lengths.prologues)) starts
  prologues_fit starts n each =
      let few = may.well_formed.in_range.configuration.few_tasks in
      let lines = may.planned.addresses.lines in
      let count = may.planned.are_lengths.prologues in
      let long = length-take-le (length config.tasks) map.handlers (omega (arith, few, lines)) in
      let all = length-map lengths.prologues code_byte_count in
      let same : length (take (length config.tasks) map.handlers) ≡ length (prelude.map code_byte_count lengths.prologues) = omega (arith, long, all, count) in
      let rooms = extents_long (take (length config.tasks) map.handlers) (prelude.map code_byte_count lengths.prologues) same in
      zip_from FitsRoom (extents_of (take (length config.tasks) map.handlers) (prelude.map code_byte_count lengths.prologues)) starts no_extent none (omega (arith, rooms, all, count, n))
      (λ k l.
      let below : k < length config.tasks = omega (arith, l, rooms, all, count) in
      let room = extent_at (take (length config.tasks) map.handlers) (prelude.map code_byte_count lengths.prologues) k same (omega (arith, l, rooms)) in
      let at : get_or (take (length config.tasks) map.handlers) k 0 ≡ slice_index map.handlers k = get_or-take (length config.tasks) map.handlers k 0 below in
      let len : get_or (prelude.map code_byte_count lengths.prologues) k 0 ≡ code_byte_count (get_or lengths.prologues k 0) = get_or-map code_byte_count lengths.prologues k 0 in
      let P : Extent → Type 0 = λ r. FitsRoom r (get_or starts k none) in
      let B : ℕ → Type 0 = λ b. FitsRoom (record { base = b; len = code_byte_count (get_or lengths.prologues k 0) }) (get_or starts k none) in
      let L : ℕ → Type 0 = λ m. FitsRoom (record { base = get_or (take (length config.tasks) map.handlers) k 0; len = m }) (get_or starts k none) in
      subst P (sym room) (subst L (sym len) (subst B (sym at) (prologue_room k (get_or starts k none) below (each k none (omega (arith, below, n)))))))

  -- ---- ticks

  pub ticks_fit : (counted : List Block) → length counted ≡ length config.counters → Each (IsTickBlock config map) counted
      → FitRooms (extents_of (tick_starts lengths) (prelude.map code_byte_count lengths.ticks)) counted
  ticks_fit counted n each =
      let count = may.planned.are_lengths.ticks in
      let all = length-map lengths.ticks code_byte_count in
      let begun = length_starts (ticks_at lengths) (prelude.map code_byte_count lengths.ticks) in
      let same : length (tick_starts lengths) ≡ length (prelude.map code_byte_count lengths.ticks) = begun in
      let rooms = extents_long (tick_starts lengths) (prelude.map code_byte_count lengths.ticks) same in
      zip_from FitsRoom (extents_of (tick_starts lengths) (prelude.map code_byte_count lengths.ticks)) counted no_extent none (omega (arith, rooms, all, count, n))
      (λ k l.
      let below : k < length config.counters = omega (arith, l, rooms, all, count) in
      let t = each k none (omega (arith, below, n)) in
      let few = may.well_formed.in_range.configuration.few_counters in
      let near = may.planned.reach (counter_line k) (omega (arith, below, few)) in
      let behind = near.1 in
      let long = t.is_tick.size ∙ sym (may.planned.are_lengths.each_tick k below) in
      let at : slice_index map.handlers (counter_line k) ≡ get_or (tick_starts lengths) k 0 = may.planned.addresses.ticks k below in
      let len : get_or (prelude.map code_byte_count lengths.ticks) k 0 ≡ code_byte_count (get_or lengths.ticks k 0) = get_or-map code_byte_count lengths.ticks k 0 in
      let room = extent_at (tick_starts lengths) (prelude.map code_byte_count lengths.ticks) k same (omega (arith, l, rooms)) in
      let P : Extent → Type 0 = λ r. FitsRoom r (get_or counted k none) in
      subst P (sym room)
      (plain (record { base = get_or (tick_starts lengths) k 0; len = get_or (prelude.map code_byte_count lengths.ticks) k 0 }) (get_or counted k none)
      (t.at ∙ at) (omega (arith, behind, at)) (subst (λ a. a % 4 ≡ 0) at near.0) (omega (arith, long, len)) t.marks))

  -- ---- services

  blocks_long : length map.places.blocks ≡ block_count
  blocks_long =
      ap length may.planned.addresses.blocks ∙ length_starts (services_at lengths) (prelude.map code_byte_count lengths.services) ∙ length-map lengths.services code_byte_count
      ∙ may.planned.are_lengths.services

  service_room : (number : ℕ) (block : Block) → number < block_count → get_or lengths.services number 0 ≡ block_length number → IsService config levels map number block
      → FitsRoom (record { base = slice_index map.places.blocks number; len = code_byte_count (block_length number) }) block
  service_room number block l sized h =
      let at = h.at in
      let all_long = h.long in
      let bytes : List ℕ = prelude.map code_byte_count lengths.services in
      let from : ℕ = services_at lengths in
      let long = blocks_long in
      let all = may.planned.are_lengths.services in
      let counted = length-map lengths.services code_byte_count in
      let is : slice_index map.places.blocks number ≡ get_or (starts from bytes) number 0 = ap (λ (blocks : List ℕ). get_or blocks number 0) may.planned.addresses.blocks in
      let stood = stands from bytes number (omega (arith, counted, all, l)) in
      let above = stood.above in
      let below = stood.below in
      let own_bytes : get_or bytes number 0 ≡ code_byte_count (get_or lengths.services number 0) = get_or-map code_byte_count lengths.services number 0 in
      let first = end_above (prologues_at lengths) (prelude.map code_byte_count lengths.prologues) in
      let second = end_above (ticks_at lengths) (prelude.map code_byte_count lengths.ticks) in
      let end = may.planned.addresses.code_to in
      let items = end_above (items_at lengths) (prelude.map code_byte_count lengths.items) in
      let last = end_of_code config app map may.bounds 0 [] may.planned.zones in
      let even = may.planned.zones.blocks_aligned number 0 (omega (arith, long, l)) in
      let marks = service_marks config h.service (block_object number) levels block.code block.at (block_code number) (omega (arith, at, is, below, own_bytes, sized, all_long, items, end, last)) h.serves in
      let own = sym h.marks in
      record {
        at = at;
        above = omega (arith, is, above, first, second);
        aligned = even;
        long = omega (arith, all_long);
        few = subst (λ ms. length ms ≤ 2) own marks.few;
        rising = subst MarksRise own marks.rising;
        marks = subst (All (λ (m : Mark). (block.at ≤ m.address) × (m.address < block.at + 4 * length block.code))) own marks.own;
      }

  -- what the sizes from a number on say, where these are wanted
  abbrev Sized : ℕ → List ℕ → List Bool → Type 0
  Sized n sizes rest = (k : ℕ) → k < length rest → get_or sizes k 0 ≡ cond (get_or rest k false) (block_length (n + k)) 0

  -- they are those of the map
  abbrev Of : ℕ → List ℕ → List ℕ → Type 0
  Of n addresses sizes = (k : ℕ) → k < length sizes
      → (get_or addresses k 0 ≡ slice_index map.places.blocks (n + k)) × (get_or sizes k 0 ≡ get_or lengths.services (n + k) 0)

  next_sized : (n size : ℕ) (sizes : List ℕ) (w : Bool) (rest : List Bool) → Sized n (size ∷ sizes) (w ∷ rest) → Sized (n + 1) sizes rest
  next_sized n size sizes w rest h k l = let k1 : n + suc k ≡ (n + 1) + k = omega arith in h (suc k) (omega (arith, l)) ∙ ap (λ j. cond (get_or rest k false) (block_length j) 0) k1

  next_of : (n a size : ℕ) (addresses sizes : List ℕ) → Of n (a ∷ addresses) (size ∷ sizes) → Of (n + 1) addresses sizes
  next_of n a size addresses sizes h k l =
      let k1 : n + suc k ≡ (n + 1) + k = omega arith in
      let here = h (suc k) (omega (arith, l)) in
      (here.0 ∙ ap (slice_index map.places.blocks) k1, here.1 ∙ ap (λ j. get_or lengths.services j 0) k1)

  services_fit_from : (n : ℕ) (addresses sizes : List ℕ) (rest : List Bool) (blocks : List Block) → length addresses ≡ length rest → length sizes ≡ length rest → n + length rest ≡ block_count
      → Of n addresses sizes → Sized n sizes rest → AllZip (IsService config levels map) (wanted_services_from n rest) blocks → FitRooms (some_extents addresses sizes) blocks
  services_fit_from n [] [] [] blocks e f all of sized h = fit_none blocks h
    where
      fit_none : (bs : List Block) → AllZip (IsService config levels map) [] bs → FitRooms [] bs
      fit_none [] g = tt
      fit_none (b ∷ bs) g = absurd g
  services_fit_from n [] sizes (w ∷ rest) blocks e f all of sized h = absurd (omega (arith, e))
  services_fit_from n [] (size ∷ sizes) [] blocks e f all of sized h = absurd (omega (arith, f))
  services_fit_from n (a ∷ addresses) sizes [] blocks e f all of sized h = absurd (omega (arith, e))
  services_fit_from n (a ∷ addresses) [] (w ∷ rest) blocks e f all of sized h = absurd (omega (arith, f))
  services_fit_from n (a ∷ addresses) (zero ∷ sizes) (false ∷ rest) blocks e f all of sized h =
      services_fit_from (n + 1) addresses sizes rest blocks (omega (arith, e)) (omega (arith, f)) (omega (arith, all)) (next_of n a 0 addresses sizes of) (next_sized n 0 sizes false rest sized) h
  services_fit_from n (a ∷ addresses) (suc size ∷ sizes) (false ∷ rest) blocks e f all of sized h = let none = sized 0 (omega arith) in absurd (omega (arith, none))
  services_fit_from n (a ∷ addresses) (size ∷ sizes) (true ∷ rest) [] e f all of sized h = absurd h
  services_fit_from n (a ∷ addresses) (zero ∷ sizes) (true ∷ rest) (b ∷ blocks) e f all of sized h =
      let zero_more : n + 0 ≡ n = omega arith in
      let none = sized 0 (omega arith) ∙ ap block_length zero_more in
      let long = h.0.long in
      let some = some_code config h.0.service (block_object n) levels b.code h.0.serves in
      absurd (omega (arith, none, long, some))
  services_fit_from n (a ∷ addresses) (suc size ∷ sizes) (true ∷ rest) (b ∷ blocks) e f all of sized h =
      let zero_more : n + 0 ≡ n = omega arith in
      let here = of 0 (omega arith) in
      let is : a ≡ slice_index map.places.blocks n = here.0 ∙ ap (slice_index map.places.blocks) zero_more in
      let own : suc size ≡ block_length n = sized 0 (omega arith) ∙ ap block_length zero_more in
      let its : get_or lengths.services n 0 ≡ block_length n = sym (here.1 ∙ ap (λ j. get_or lengths.services j 0) zero_more) ∙ own in
      let P : ℕ → Type 0 = λ base. FitsRoom (record { base = base; len = code_byte_count (suc size) }) b in
      let L : ℕ → Type 0 = λ m. FitsRoom (record { base = slice_index map.places.blocks n; len = code_byte_count m }) b in (
        subst P (sym is) (subst L (sym own) (service_room n b (omega (arith, all)) its h.0)),
        services_fit_from (n + 1) addresses sizes rest blocks (omega (arith, e)) (omega (arith, f)) (omega (arith, all)) (next_of n a (suc size) addresses sizes of) (next_sized n (suc size) sizes true rest sized) h.1,
      )

  pub services_fit : (blocks : List Block) → AllZip (IsService config levels map) (wanted_services_from 0 wanted) blocks → FitRooms (some_extents map.places.blocks lengths.services) blocks
  services_fit blocks h =
      let long = blocks_long in
      let all = all_places app in
      let sizes = may.planned.are_lengths.services in
      services_fit_from 0 map.places.blocks lengths.services wanted blocks (omega (arith, long, all)) (omega (arith, sizes, all)) (omega (arith, all))
      (λ k l. let same : k ≡ 0 + k = omega arith in (ap (slice_index map.places.blocks) same, ap (λ j. get_or lengths.services j 0) same))
      (λ k l. let same : k ≡ 0 + k = omega arith in may.planned.are_lengths.each_service k (omega (arith, l, all))
      ∙ ap (λ b. cond b (block_length k) 0) (sym (at_place app k (omega (arith, l, all)))) ∙ ap (λ j. cond (get_or wanted k false) (block_length j) 0) same) h

  -- ---- items

  item_room : (func index : ℕ) → IsAppItem app func index
      → FitsRoom (record { base = item_address map.places func index; len = code_byte_count (get_or may.planned.lengths.items (items_before app.funcs func + index) 0) }) (item_block app map.places func index)
  item_room func index is =
      let word = may.planned.covers.items func index is in
      let size = size_of_item app (config, may.well_formed) map.places may.planned.agree may.planned.lengths.items may.planned.are_lengths.items func index is in
      let some = expanded_some app map.places func (item_address map.places func index) (is_long map.places func index) (operation app func index) in
      marked (record { base = item_address map.places func index; len = code_byte_count (get_or may.planned.lengths.items (items_before app.funcs func + index) 0) }) (item_block app map.places func index)
      (item_mark app map.places func index) refl word.0 word.2 (omega (arith, size)) refl (omega arith) (omega (arith, some))

  pub items_fit : FitRooms (extents_of map.places.items (prelude.map code_byte_count may.planned.lengths.items)) (item_blocks app map.places (length app.funcs))
  items_fit =
      let sizes : List ℕ = may.planned.lengths.items in
      let count = may.planned.are_lengths.items.count in
      let all = length-map sizes code_byte_count in
      let own = items_long config app levels map may in
      let same : length map.places.items ≡ length (prelude.map code_byte_count sizes) = omega (arith, count, all, own) in
      let rooms = extents_long map.places.items (prelude.map code_byte_count sizes) same in
      let many = length_blocks app map.places (length app.funcs) in
      zip_from FitsRoom (extents_of map.places.items (prelude.map code_byte_count sizes)) (item_blocks app map.places (length app.funcs)) no_extent none (omega (arith, rooms, all, count, many))
      (λ k l. one k (omega (arith, l, rooms, all, count)) (omega (arith, l, rooms)) same)
    where
      one : (k : ℕ) → k < items_before app.funcs (length app.funcs) → k < length (prelude.map code_byte_count may.planned.lengths.items) → length map.places.items ≡ length (prelude.map code_byte_count may.planned.lengths.items)
          → FitsRoom (get_or (extents_of map.places.items (prelude.map code_byte_count may.planned.lengths.items)) k no_extent) (get_or (item_blocks app map.places (length app.funcs)) k none)
      one k l m same =
          let at = located app.funcs (length app.funcs) k l in
          let is : IsAppItem app at.func at.index = record { declared = at.declared; inside = at.inside } in
          let block : get_or (item_blocks app map.places (length app.funcs)) k none ≡ item_block app map.places at.func at.index =
          ap (λ j. get_or (item_blocks app map.places (length app.funcs)) j none) at.is ∙ block_at app map.places (length app.funcs) at.func at.index none at.declared at.inside in
          let base : item_address map.places at.func at.index ≡ get_or map.places.items k 0 =
          ap (λ n. get_or map.places.items (n + at.index) 0) (first_is config app levels map may at.func at.declared) ∙ ap (λ j. get_or map.places.items j 0) (sym at.is) in
          let len : code_byte_count (get_or may.planned.lengths.items (items_before app.funcs at.func + at.index) 0) ≡ get_or (prelude.map code_byte_count may.planned.lengths.items) k 0 =
          ap (λ j. code_byte_count (get_or may.planned.lengths.items j 0)) (sym at.is) ∙ sym (get_or-map code_byte_count may.planned.lengths.items k 0) in
          let room = extent_at map.places.items (prelude.map code_byte_count may.planned.lengths.items) k same m in
          let B : ℕ → Type 0 = λ b. FitsRoom (record { base = b; len = code_byte_count (get_or may.planned.lengths.items (items_before app.funcs at.func + at.index) 0) }) (item_block app map.places at.func at.index) in
          let L : ℕ → Type 0 = λ n. FitsRoom (record { base = get_or map.places.items k 0; len = n }) (item_block app map.places at.func at.index) in
          let R : Extent → Type 0 = λ r. FitsRoom r (item_block app map.places at.func at.index) in
          let Q : Block → Type 0 = λ b. FitsRoom (get_or (extents_of map.places.items (prelude.map code_byte_count may.planned.lengths.items)) k no_extent) b in
          subst Q (sym block) (subst R (sym room) (subst L len (subst B base (item_room at.func at.index is))))
