-- A kernel in place is one with any bound on what preempted tasks have passed.
use Rattle.std.proofs.Common.{ℕ, ◌+◌, List, [], ◌∷◌}
use Rattle.sloth_base.specs.declared.image.Image.{Image}
use Rattle.sloth_base.specs.declared.service.Service.{Service}
use Rattle.rv32_instr.specs.declared.InstrKind.{InstrKind}
use Rattle.rv32_expand.specs.Expansion.{item_address, expansion}
use Rattle.observe.specs.Observe.{View, view_of_image}
use Rattle.sim_relation.specs.Build.{Build, HasFittingPlaces, with_passed}
use Rattle.sim_relation.specs.Placed.{IsPlaced}
use Rattle.sim_relation.specs.DataStands.{DataStands}
use Rattle.sim_routines.specs.Boot.{IsImage}
use Rattle.sim_routines.specs.Codes.{BootStands, PrologueStands}
use Rattle.sim_routines.specs.Opening.{StandsAtBlock}
use Rattle.sim_routines.specs.Stretch.{HasWayBack}
use Rattle.sim_routines.specs.TickSteps.{TickStands}
use Rattle.sim_items.specs.Place.{HasInstructions, ItemStands}
use Rattle.sim_items.specs.Outside.{HasIdle}
use Rattle.sim_laws.specs.Kernel.{Kernel, IsKnownItem, IsServiceItem}
use Rattle.sim_laws.specs.Kernel.IsKnownItem.{computes, flows, invokes, returns, serves}

module _ (b : Build) (passed : ℕ → ℕ) where
  abbrev c : Build
  c = with_passed b passed

  fits_as : HasFittingPlaces b → HasFittingPlaces c
  fits_as f = record {
    few_tasks = f.few_tasks;
    few_counters = f.few_counters;
    few_alarms = f.few_alarms;
    elsewhere = f.elsewhere;
    outside = f.outside;
    apart = f.apart;
    data_inside = f.data_inside;
    symbols = f.symbols;
    symbols_apart = f.symbols_apart;
    items = f.items;
    blocks = f.blocks;
    idle_address = f.idle_address;
    back_address = f.back_address;
    from = f.from;
    to = f.to;
    room = f.room;
  }

  placed_as : (offset : ℕ) (code : List InstrKind) → IsPlaced b offset code → IsPlaced c offset code
  placed_as offset code p = record { aligned = p.aligned; inside = p.inside; is_code = p.is_code; placed = p.placed }

  data_as : (ram : List ℕ) (symbols : List (List ℕ)) → DataStands b ram symbols → DataStands c ram symbols
  data_as ram symbols h y k l = let byte = h y k l in record { from = byte.from; is_data = byte.is_data; holds = byte.holds }

  image_as : (image : Image) → IsImage b image → IsImage c image
  image_as image h =
      record { memory = h.memory; size = h.size; service_words = h.service_words; clock = h.clock; data_stands = data_as b.memory _ h.data_stands }

  boot_as : BootStands b → BootStands c
  boot_as h = record { levels = h.levels; ranks = h.ranks; code = h.code; boots = h.boots; placed = placed_as _ h.code h.placed }

  prologue_as : (t : ℕ) → PrologueStands b t → PrologueStands c t
  prologue_as t h = record {
    offset = h.offset;
    code = h.code;
    enters = h.enters;
    placed = placed_as h.offset h.code h.placed;
    jump = h.jump;
    vector_word = placed_as _ _ h.vector_word;
    to_code = h.to_code;
    few_words = h.few_words;
    has_item = h.has_item;
  }

  tick_as : (k : ℕ) → TickStands b k → TickStands c k
  tick_as k h = record {
    code = h.code;
    is_tick = h.is_tick;
    offset = h.offset;
    placed = placed_as h.offset h.code h.placed;
    jump = h.jump;
    vector_word = placed_as _ _ h.vector_word;
    to_code = h.to_code;
  }

  instructions_as : (address : ℕ) (code : List InstrKind) → HasInstructions b address code → HasInstructions c address code
  instructions_as address [] h = tt
  instructions_as address (kind ∷ code) h = (
    record { offset = h.0.offset; is = h.0.is; to = h.0.to; is_code = h.0.is_code; word = h.0.word; in_range = h.0.in_range },
    instructions_as (address + 4) code h.1,
  )

  module _ (view : View) where
    idle_as : HasIdle b view → HasIdle c view
    idle_as h = record {
      code = h.code;
      idles = h.idles;
      offset = h.offset;
      is = h.is;
      placed = placed_as h.offset h.code h.placed;
      mark = h.mark;
      marked = h.marked;
      shows = h.shows;
    }

    item_as : (func item : ℕ) → ItemStands b view func item → ItemStands c view func item
    item_as func item h = record {
      code = instructions_as (item_address b.places func item) (expansion b.app b.places func item) h.code;
      marked = h.marked;
      unmarked = h.unmarked;
      adjacent = h.adjacent;
    }

    abbrev block_as : (served : Service) (object : ℕ) (Contract : List InstrKind → Type 0) → StandsAtBlock b view served object Contract → StandsAtBlock c view served object Contract
    block_as served object Contract h = record {
      code = h.code;
      serves = h.serves;
      offset = h.offset;
      is = h.is;
      placed = placed_as h.offset h.code h.placed;
      mark = h.mark;
      marked = h.marked;
      opens = h.opens;
      calls = h.calls;
    }

    way_as : (object : ℕ) → HasWayBack b view object → HasWayBack c view object
    way_as object h = record {
      code = h.code;
      yields = h.yields;
      offset = h.offset;
      block_is = h.block_is;
      placed = placed_as h.offset h.code h.placed;
      is = h.is;
      mark = h.mark;
      marked = h.marked;
      is_back = h.is_back;
    }

    service_as : (func item : ℕ) → IsServiceItem b view func item → IsServiceItem c view func item
    service_as func item h = record {
      call = h.call;
      is = h.is;
      levels = h.levels;
      are_levels = h.are_levels;
      block = block_as h.call.service h.call.object _ h.block;
      in_ram = h.in_ram;
      apart = h.apart;
    }

    known_as : (func item : ℕ) → IsKnownItem b view func item → IsKnownItem c view func item
    known_as func item (computes h) = computes (record { straight = h.straight; more = h.more })
    known_as func item (flows h) = flows (record { flow = h.flow })
    known_as func item (invokes h) = invokes (record { callee = h.callee; is = h.is })
    known_as func item (returns h) = returns (record { is = h.is })
    known_as func item (serves h) = serves (service_as func item h)

  -- the kernel
  pub kernel_as : (image : Image) → Kernel b image → Kernel c image
  kernel_as image k =
      let view = view_of_image image in
      record {
        fits = fits_as k.fits;
        well_formed = k.well_formed;
        tasks = k.tasks;
        counters = k.counters;
        is_image = image_as image k.is_image;
        bytes = k.bytes;
        boot = boot_as k.boot;
        idle = idle_as view k.idle;
        prologues = λ t l. prologue_as t (k.prologues t l);
        ticks = λ i l. tick_as i (k.ticks i l);
        stacks = k.stacks;
        nested = k.nested;
        items = λ func item l. item_as view func item (k.items func item l);
        operations = λ func item l. known_as view func item (k.operations func item l);
        way_back = λ func item call l is served. way_as view call.object (k.way_back func item call l is served);
      }
