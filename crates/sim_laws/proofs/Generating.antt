-- What is built by the contracts of the generators and of linking is generated.
use Rattle.std.proofs.Common.{◌≡◌, ◌≢◌, ◌≤◌, ◌<◌, ◌+◌, ◌-◌, ◌*◌, ℕ, zero, suc, List, [], ◌∷◌, length, get_or, refl, sym, ap, subst, ◌∙◌, ◌⊎◌, inl, inr, ⊎_elim, arith}
use Rattle.std.specs.Prelude.{All, Contains, Some, slice_index}
use Rattle.std.specs.Prelude as prelude
use Rattle.std.proofs.lemmas.List.Elements.{All-contains}
use Rattle.std.proofs.lemmas.List.Sorted.{All-permutation, Contains-permutation}
use Rattle.std.proofs.lemmas.Option.{get_or_from_slice_get, slice_get_within}
use Rattle.std.proofs.Math.ListN.{length-map}
use Rattle.sloth_base.specs.Named.{function, no_function, operation, body_of, IsBodyOf}
use Rattle.sloth_base.specs.Owners.{counter_line}
use Rattle.sloth_base.specs.ServiceCodes.{code_of}
use Rattle.sloth_base.specs.declared.app.App.{App}
use Rattle.sloth_base.specs.declared.app.Call.{Call}
use Rattle.sloth_base.specs.declared.app.Func.{Func}
use Rattle.sloth_base.specs.declared.app.Op.TheVariants as op
use Rattle.sloth_base.specs.declared.image.MarkKind.{MarkKind}
use Rattle.sloth_base.specs.declared.image.MarkKind.TheVariants as kind
use Rattle.sloth_base.specs.declared.service.Service.TheVariants as service
use Rattle.sloth_base.specs.declared.config.TaskDecl.{TaskDecl}
use Rattle.sloth_base.specs.declared.config.Config.{Config}
use Rattle.sloth_base.specs.declared.image.Image.{Image}
use Rattle.sloth_base.specs.declared.image.Mark.{Mark}
use Rattle.sloth_base.specs.declared.limits.Levels.{Levels}
use Rattle.sloth_region.specs.declared.region.Map.{Map}
use Rattle.rv32_instr.specs.declared.block.Block.{Block}
use Rattle.rv32_instr.specs.Range.{InRange}
use Rattle.rv32_expand.specs.Expansion.{expansion, item_address, block_address}
use Rattle.rv32_expand.specs.InPlace.{IsAppItem, ItemsInPlace, item_mark, mark_kind}
use Rattle.rv32_expand.proofs.InRangeOf.{frame_of}
use Rattle.rv32_expand.proofs.Verified.{has_first}
use Rattle.osek_scheduler.proofs.Stacks.{body_is}
use Rattle.observe.specs.Observe.{mark_at, view_of_image}
use Rattle.vector_gen.specs.Idle.{idle_mark}
use Rattle.service_gen.specs.TaskBlock.{further_marks}
use Rattle.block_parts.specs.Marks.{opening, back_mark}
use Rattle.service_gen.specs.Calls.{IsAnyServiceBlock}
use Rattle.sloth_base.specs.Arithmetic.{sum32}
use Rattle.service_gen.specs.Schedule.{way_back, IsScheduleCode}
use Rattle.sim_routines.specs.Stretch.{HasWayBack}
use Rattle.sim_relation.specs.Build.{Build}
use Rattle.sim_relation.specs.Placed.{IsPlaced}
use Rattle.sim_routines.specs.Generated.{HasOneBody}
use Rattle.sim_items.specs.Outside.{HasIdle}
use Rattle.sim_laws.specs.Kernel.{IsServiceItem, IsKnownItem}
use Rattle.sim_laws.specs.Kernel.IsKnownItem.{serves as known_serves}
use Rattle.sim_laws.specs.Generated.{HasPrologue, HasTick, IsGenerated}
use Rattle.sim_laws.specs.Items.{HasItems}
use Rattle.sim_laws.proofs.Items.{marks_found, item_stands}
use Rattle.sim_laws.proofs.Known.{item_known}
use Rattle.sloth_link.specs.declared.linking.Datum.{Datum}
use Rattle.mem_map.specs.Sections.{marks_of, code_bytes, block_section, IsSectionInside}
use Rattle.sloth_link.specs.Linked.{datum_section}
use Rattle.sloth_link.proofs.Written.{code_bytes_length, front_of}
use Rattle.mem_map.specs.Zones.{code_zone}
use Rattle.sloth_base.specs.declared.limits.Bounds.{Bounds}
use Rattle.sloth_base.specs.MemoryMap.{vectors_base, memory_base}
use Rattle.sim_laws.specs.Zones.{build_of, HasFewAlarms, IsInCode}
use Rattle.sloth_link.specs.Items.{item_block}
use Rattle.sloth_link.specs.Standing.{HasItemsInPlace}
use Rattle.sim_laws.specs.GeneratedZones.{HasBlockWith, IsBuiltBy, BuiltIsGenerated, BuiltIsInPlace}
use Rattle.sim_laws.proofs.Apart.{blocks_apart}
use Rattle.sim_laws.proofs.Fitting.{here, zones_fit, stacks_are_apart, parts_nested, blocks_are_placed, code_from, code_to, part_inside}
use Rattle.sim_laws.proofs.Images.{linked_is_image}
use Rattle.sloth_link.proofs.Standing.{all_marks, mark_of_all, items_stand}
use Rattle.sim_laws.proofs.Marks.{not_inside}
use Rattle.sloth_base.proofs.Services.{of_code}
use Rattle.sim_laws.proofs.Serving.{some_code}
use Rattle.sloth_link.proofs.Placing.{items_are_placed}

-- there is no item in a function that is not there
is_declared : (funcs : List Func) (func item : ℕ) → item < length (get_or funcs func no_function).items → func < length funcs
is_declared [] zero item l = absurd (omega (arith, l))
is_declared [] (suc func) item l = absurd (omega (arith, l))
is_declared (f ∷ funcs) zero item l = omega arith
is_declared (f ∷ funcs) (suc func) item l = let d = is_declared funcs func item l in omega (arith, d)

module _ (config : Config) (app : App) (levels : Levels) (map : Map) (bounds : Bounds) (back size : ℕ) (blocks : List Block) (symbols : List Datum) (image : Image) (g : IsBuiltBy config app levels map bounds back size blocks symbols image) where
  abbrev b : Build
  b = build_of config app map bounds back image.memory

  -- every one of the blocks is above the service words, and placed
  above : (block : Block) → Contains blocks block → vectors_base ≤ block.at
  above block c =
      let i = (All-contains (IsInCode map) blocks block g.linked.in_code c).from in
      let f = code_from config app map bounds back image.memory g.linked.zones in
      omega (arith, i, f)

  placed : (block : Block) (offset : ℕ) → Contains blocks block → block.at ≡ memory_base + offset → IsPlaced b offset block.code
  placed block offset c at =
      let e : block.at - memory_base ≡ offset = omega (arith, at) in
      let P : ℕ → Type 0 = λ o. IsPlaced b o block.code in
      subst P e (All-contains (λ (x : Block). IsPlaced b (x.at - memory_base) x.code) blocks block
      (blocks_are_placed config app map bounds back image.memory blocks g.linked.zones g.linked.in_range g.linked.in_code g.linked.code) c)

  idle : HasIdle b (view_of_image image)
  idle =
      let h = g.has_code.idle in
      let a = above h.block h.among in
      let at = h.at in
      let c = h.among in
      let e : map.idle ≡ memory_base + (map.idle - memory_base) = omega (arith, a, at) in
      let own : Contains h.block.marks (idle_mark map.idle) = subst (λ (l : List Mark). Contains l (idle_mark map.idle)) (sym h.marks_are) (0, omega arith, refl) in
      record {
        code = h.block.code;
        idles = h.does;
        offset = map.idle - memory_base;
        is = e;
        placed = placed h.block (map.idle - memory_base) h.among (h.at ∙ e);
        mark = idle_mark map.idle;
        marked = marks_found image (idle_mark map.idle) g.ascending
            (Contains-permutation (marks_of blocks) image.marks (idle_mark map.idle) g.marks (mark_of_all blocks c.0 h.block (idle_mark map.idle) c.1 c.2 own));
        shows = refl;
      }

  has_body : (t : ℕ) → t < length config.tasks → IsBodyOf app t (body_of app.funcs t)
  has_body t l = let h = g.has_items.well_formed.in_range.tasks.body t l in body_is app.funcs t h.0 h.1.0 h.1.1

  one_body : (t : ℕ) → t < length config.tasks → HasOneBody b t
  one_body t l = λ f func e is.
      let same : function app f ≡ func = get_or_from_slice_get app.funcs f func no_function e in
      g.has_items.well_formed.in_range.tasks.one t f (body_of app.funcs t) (slice_get_within app.funcs f func e, ap (λ (x : Func). x.task) same ∙ is) (has_body t l)

  prologue : (t : ℕ) → t < length config.tasks → HasPrologue b levels map t
  prologue t l =
      let h = g.has_code.prologues t l in
      let body = has_body t l in
      let a = above h.block h.among in
      let at = h.at in
      let e : slice_index map.handlers t ≡ memory_base + (slice_index map.handlers t - memory_base) = omega (arith, a, at) in
      record {
        code = h.block.code;
        enters = h.does;
        offset = slice_index map.handlers t - memory_base;
        is = e;
        placed = placed h.block (slice_index map.handlers t - memory_base) h.among (h.at ∙ e);
        one_body = one_body t l;
        few_words = (let few = frame_of app (config, g.has_items.well_formed.in_range) (body_of app.funcs t) in omega (arith, few));
        has_item = (has_first config app g.has_items.well_formed (body_of app.funcs t) body.0).inside;
      }

  few_alarms : HasFewAlarms config
  few_alarms = let range = g.has_items.well_formed.in_range.configuration in (range.few_counters, range.few_alarms)

  tick : (c : ℕ) → c < length config.counters → HasTick b map c
  tick c l =
      let h = g.has_code.ticks c l in
      let a = above h.block h.among in
      let at = h.at in
      let handler = slice_index map.handlers (counter_line c) in
      let e : handler ≡ memory_base + (handler - memory_base) = omega (arith, a, at) in
      record {
        code = h.block.code;
        is_tick = h.does;
        offset = handler - memory_base;
        is = e;
        placed = placed h.block (handler - memory_base) h.among (h.at ∙ e);
      }

  tops : (t : ℕ) → t < length config.tasks → memory_base + b.top t ≡ slice_index map.tops t
  tops t l =
      let s = (part_inside config app map bounds back image.memory g.linked.zones g.linked.has_stacks t l).0 in
      let f = code_from config app map bounds back image.memory g.linked.zones in
      let c = code_to config app map bounds back image.memory g.linked.zones in
      omega (arith, s, f, c)

  item_of : (func item : ℕ) → item < length (function app func).items → IsAppItem app func item
  item_of func item l = record { declared = is_declared app.funcs func item l; inside = l }

  pub stand : HasItemsInPlace app map.places image.memory image.marks
  stand =
      items_stand app map.places size blocks image.memory image.marks g.has_items.items g.has_items.own g.linked.room.blocks_above
      (front_of (IsSectionInside size) block_section blocks (prelude.map datum_section symbols) g.linked.room.inside)
      g.linked.linked.size_is g.linked.code g.marks

  abbrev pub in_place : ItemsInPlace image config app
  in_place = items_are_placed image config app map.places g.has_items.well_formed g.has_items.agree stand g.names

  range : (func item : ℕ) → IsAppItem app func item → All InRange (expansion app map.places func item)
  range func item is = All-contains (λ (x : Block). All InRange x.code) blocks (item_block app map.places func item) g.linked.in_range (g.has_items.items func item is)

  -- no mark stands inside an expansion but at its last instruction
  unmarked : (func item i : ℕ) → IsAppItem app func item → i + 1 < length (expansion app map.places func item)
      → All (λ (mark : Mark). mark.address ≢ item_address map.places func item + 4 * i) image.marks
  unmarked func item i is inner =
      All-permutation (λ (mark : Mark). mark.address ≢ item_address map.places func item + 4 * i) (marks_of blocks) image.marks g.marks
      (all_marks (λ (mark : Mark). mark.address ≢ item_address map.places func item + 4 * i) blocks
      (not_inside blocks (prelude.map datum_section symbols) (item_block app map.places func item) (item_mark app map.places func item) i g.linked.room.apart
      g.linked.room.blocks_above g.own_marks (g.has_items.items func item is) refl refl inner))

  has_items : HasItems b image
  has_items = record {
    in_place = in_place;
    places = refl;
    memory = refl;
    size = (let n = g.linked.linked.size_is in let m = g.linked.small in omega (arith, n, m));
    is_code = λ func item i is from to.
        let c = All-contains (IsInCode map) blocks (item_block app map.places func item) g.linked.in_code (g.has_items.items func item is) in
        let a = c.from in
        let e = c.to in
        here (code_zone map) i (omega (arith, a, from)) (omega (arith, e, to));
    rising = g.ascending;
    unmarked = unmarked;
  }

  -- the block of a service that is called, apart from the call
  module _ (func item : ℕ) (is : IsAppItem app func item) (call : Call) (e : operation app func item ≡ op.Serve call) where
    h : HasBlockWith blocks (block_address map.places call.service call.object) (opening (block_address map.places call.service call.object) (code_of call.service)
        ∷ further_marks call.service (block_address map.places call.service call.object)) (IsAnyServiceBlock config call.service call.object levels)
    h = g.has_code.services func item call is e

    abbrev address : ℕ
    address = block_address map.places call.service call.object

    abbrev offset : ℕ
    offset = address - memory_base

    address_is : address ≡ memory_base + offset
    address_is = let a = above h.block h.among in let at = h.at in omega (arith, a, at)

    some : 0 < length h.block.code
    some = some_code config call.service call.object levels h.block.code h.does

    own : Contains h.block.marks (opening address (code_of call.service))
    own = subst (λ (l : List Mark). Contains l (opening address (code_of call.service))) (sym h.marks_are) (0, omega arith, refl)

    abbrev kind_of_first : List Mark → MarkKind
    kind_of_first [] = kind.Idle
    kind_of_first (m ∷ marks) = m.kind

    differ : h.block ≡ item_block app map.places func item → ⊥
    differ same =
        let marks : opening address (code_of call.service) ∷ further_marks call.service address ≡ item_mark app map.places func item ∷ [] = sym h.marks_are ∙ ap (λ (x : Block). x.marks) same in
        let jump : mark_kind (operation app func item) ≡ kind.Jump = ap mark_kind e in
        let both : kind.Opening ≡ mark_kind (operation app func item) = ap kind_of_first marks in
        absurd (let clash = both ∙ jump in cc)

    stands_apart : (memory_base + offset < item_address map.places func item)
        ⊎ (item_address map.places func item + 4 * length (expansion app map.places func item) ≤ memory_base + offset)
    stands_apart =
        let a = blocks_apart blocks (prelude.map datum_section symbols) h.block (item_block app map.places func item) g.linked.room.apart differ h.among (g.has_items.items func item is) in
        let up = above (item_block app map.places func item) (g.has_items.items func item is) in
        let at = h.at in
        let there = address_is in
        let n = code_bytes_length h.block.code in
        let m = code_bytes_length (expansion app map.places func item) in
        let one = some in
        ⊎_elim
        (λ (x : (h.block.at - memory_base) + length (code_bytes h.block.code) ≤ item_address map.places func item - memory_base). inl (omega (arith, x, at, there, n, one, up)))
        (λ (x : (item_address map.places func item - memory_base) + length (code_bytes (expansion app map.places func item)) ≤ h.block.at - memory_base). inr (omega (arith, x, at, there, m, up)))
        a

    there : IsPlaced b offset h.block.code
    there = placed h.block offset h.among (h.at ∙ address_is)

    item_serves : IsServiceItem b (view_of_image image) func item
    item_serves =
        let c = h.among in
        let inside_ram = there.inside in
        let one = some in
        let found = marks_found image (opening address (code_of call.service)) g.ascending
        (Contains-permutation (marks_of blocks) image.marks (opening address (code_of call.service)) g.marks (mark_of_all blocks c.0 h.block (opening address (code_of call.service)) c.1 c.2 own)) in
        record {
          call = call;
          is = e;
          in_ram = omega (arith, inside_ram, one);
          apart = stands_apart;
          levels = levels;
          are_levels = g.are_levels;
          block = record {
            code = h.block.code;
            serves = h.does;
            offset = offset;
            is = address_is;
            placed = there;
            mark = opening address (code_of call.service);
            marked = subst (λ n. mark_at (view_of_image image) n ≡ Some (opening address (code_of call.service))) address_is found;
            opens = refl;
            calls = of_code call.service;
          };
        }

    -- the way back, where the service is Schedule
    module _ (s : call.service ≡ service.Schedule) where
      abbrev back_at : Mark
      back_at = back_mark (sum32 address way_back)

      marks_are : h.block.marks ≡ opening address (code_of call.service) ∷ back_at ∷ []
      marks_are = h.marks_are ∙ ap (λ v. opening address (code_of call.service) ∷ further_marks v address) s

      own_back : Contains h.block.marks back_at
      own_back = subst (λ (l : List Mark). Contains l back_at) (sym marks_are) (1, omega arith, refl)

      yields : IsScheduleCode h.block.code
      yields = subst (λ v. IsAnyServiceBlock config v call.object levels h.block.code) s h.does

      back_is : back ≡ memory_base + (offset + way_back)
      back_is = let i = g.back_is func item call is e s in let a = address_is in omega (arith, i, a)

      has_way_back : HasWayBack b (view_of_image image) call.object
      has_way_back =
          let c = h.among in
          let inside_ram = there.inside in
          let one = some in
          let i = back_is in
          let a = address_is in
          let here : sum32 address way_back ≡ back = omega (arith, inside_ram, one, i, a) in
          record {
            code = h.block.code;
            yields = yields;
            offset = offset;
            block_is = ap (λ v. block_address map.places v call.object) (sym s) ∙ address_is;
            placed = there;
            is = back_is;
            mark = back_at;
            marked = subst (λ n. mark_at (view_of_image image) n ≡ Some back_at) here (marks_found image back_at g.ascending
                (Contains-permutation (marks_of blocks) image.marks back_at g.marks (mark_of_all blocks c.0 h.block back_at c.1 c.2 own_back)));
            is_back = refl;
          }

  operations : (func item : ℕ) → IsAppItem app func item → IsKnownItem b (view_of_image image) func item
  operations func item is =
      item_known b (view_of_image image) func item g.has_items.well_formed is.declared is.inside
      (λ call e. known_serves (item_serves func item is call e))

  pub generated : IsGenerated b image levels map
  generated = record {
    fits = zones_fit config app map bounds back image.memory g.linked.zones few_alarms g.linked.has_stacks g.linked.calls_fit g.linked.has_symbols g.back_aligned;
    well_formed = g.has_items.well_formed;
    are_levels = g.are_levels;
    places = refl;
    idle_is = refl;
    tops = tops;
    tasks = ap length g.names.tasks ∙ length-map config.tasks (λ (d : TaskDecl). d.name);
    counters = g.counters;
    is_image = linked_is_image map config app bounds size blocks symbols image back g.has_items.well_formed.in_range.configuration g.linked;
    bytes = g.bytes;
    vectors = g.has_code.vectors.block.code;
    jumps = g.has_code.vectors.does;
    vectors_placed = placed g.has_code.vectors.block 0x400 g.has_code.vectors.among g.has_code.vectors.at;
    boot = g.has_code.boot.block.code;
    boots = g.has_code.boot.does;
    boot_placed = placed g.has_code.boot.block 0x480 g.has_code.boot.among g.has_code.boot.at;
    idle = idle;
    prologues = prologue;
    ticks = tick;
    stacks = stacks_are_apart config app map bounds back image.memory g.linked.zones g.linked.has_stacks;
    nested = parts_nested config app map bounds back image.memory g.linked.zones g.linked.has_stacks;
    items = λ func item l. item_stands b image func item has_items (item_of func item l) (range func item (item_of func item l));
    operations = λ func item l. operations func item (item_of func item l);
    way_back = λ func item call l e s. has_way_back func item (item_of func item l) call e s;
  }

pub built_is_generated : BuiltIsGenerated
built_is_generated config app levels map bounds back size blocks symbols image g = generated config app levels map bounds back size blocks symbols image g

pub built_is_in_place : BuiltIsInPlace
built_is_in_place config app levels map bounds back size blocks symbols image g = in_place config app levels map bounds back size blocks symbols image g
