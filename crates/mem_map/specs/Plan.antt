-- Where the code and the data of an image stand: one piece right behind the other, each with the room of its own length.
use Rattle.std.specs.Prelude.{ℕ, zero, suc, ◌+◌, ◌%◌, ◌<◌, ◌≤◌, ◌≡◌, ◌≢◌, ◌⊎◌, List, [], ◌∷◌, ◌++◌, length, All, get_or, slice_index, take}
use Rattle.std.specs.Prelude as prelude
use Rattle.sloth_base.specs.declared.app.App.{App}
use Rattle.sloth_base.specs.declared.app.Symbol.{Symbol}
use Rattle.sloth_base.specs.declared.config.Config.{Config}
use Rattle.sloth_base.specs.declared.limits.Bounds.{Bounds}
use Rattle.sloth_base.specs.Blocks.{block_count}
use Rattle.sloth_base.specs.Owners.{first_counter_line, counter_line}
use Rattle.sloth_base.specs.MemoryMap.{vectors_base, boot_base, line_count}
use Rattle.mem_map.specs.Wanted.{IsServicePlace}
use Rattle.sloth_region.specs.declared.region.Extent.{Extent}
use Rattle.sloth_region.specs.declared.region.Map.{Map}
use Rattle.sloth_region.specs.Region.{aligned}
use Rattle.code_rules.specs.AppRange.{AppInRange}
use Rattle.mem_map.specs.Starts.{code_byte_count}
use Rattle.rv32_expand.specs.Sizes.{AreItemSizes}
use Rattle.stack_bounds.specs.Bounds.{AreBounds, AreParts}
use Rattle.mem_map.specs.declared.all_lengths.CodeLengths.{CodeLengths}
use Rattle.mem_map.specs.Starts.{starts, end_of}
use Rattle.mem_map.specs.Run.{extents_of}
use Rattle.mem_map.specs.Zones.{code_zone, data_zone}

-- ---- bytes of each piece

-- the idle loop: one instruction
abbrev pub idle_bytes : ℕ
idle_bytes = 4

-- a symbol, to the next multiple of 4
abbrev pub symbol_bytes : Symbol → ℕ
symbol_bytes symbol = aligned (length symbol.bytes) 4

-- ---- addresses

-- the idle loop, behind boot
abbrev pub idle_at : CodeLengths → ℕ
idle_at lengths = boot_base + code_byte_count lengths.boot

-- the first prologue
abbrev pub prologues_at : CodeLengths → ℕ
prologues_at lengths = idle_at lengths + idle_bytes

-- the first tick, behind all prologues
abbrev pub ticks_at : CodeLengths → ℕ
ticks_at lengths = end_of (prologues_at lengths) (prelude.map code_byte_count lengths.prologues)

-- the first service, behind all ticks
abbrev pub services_at : CodeLengths → ℕ
services_at lengths = end_of (ticks_at lengths) (prelude.map code_byte_count lengths.ticks)

-- the first item, behind all services
abbrev pub items_at : CodeLengths → ℕ
items_at lengths = end_of (services_at lengths) (prelude.map code_byte_count lengths.services)

-- the end of all code
abbrev pub code_end : CodeLengths → ℕ
code_end lengths = end_of (items_at lengths) (prelude.map code_byte_count lengths.items)

-- the end of the zone of data, which begins at an address: one word behind all symbols, so that it is never empty
abbrev pub data_end : App → ℕ → ℕ
data_end app from = end_of from (prelude.map symbol_bytes app.symbols) + 4

-- the addresses of the ticks
abbrev pub tick_starts : CodeLengths → List ℕ
tick_starts lengths = starts (ticks_at lengths) (prelude.map code_byte_count lengths.ticks)

-- the addresses of a map
pub record HasAddresses (config : Config) (app : App) (lengths : CodeLengths) (map : Map) : Type 0 where
  pub idle : map.idle ≡ idle_at lengths
  pub lines : length map.handlers ≡ line_count
  pub prologues : take (length config.tasks) map.handlers ≡ starts (prologues_at lengths) (prelude.map code_byte_count lengths.prologues)
  pub ticks : (c : ℕ) → c < length config.counters → slice_index map.handlers (counter_line c) ≡ get_or (tick_starts lengths) c 0
  -- a line that is neither a task's nor a counter's goes to the idle loop
  pub unused :
      (line : ℕ) → length config.tasks ≤ line → line < line_count → (line < first_counter_line) ⊎ (counter_line (length config.counters) ≤ line)
      → slice_index map.handlers line ≡ map.idle
  pub blocks : map.places.blocks ≡ starts (services_at lengths) (prelude.map code_byte_count lengths.services)
  pub items : map.places.items ≡ starts (items_at lengths) (prelude.map code_byte_count lengths.items)
  -- the number of items before those of each function
  pub first : map.places.first ≡ starts 0 (prelude.map (λ f. length f.items) app.funcs)
  pub symbols : map.places.symbols ≡ starts (code_end lengths) (prelude.map symbol_bytes app.symbols)
  -- the zone of code is all of this code, and the zone of data follows it
  pub code_from : (code_zone map).base ≡ vectors_base
  pub code_to : (code_zone map).base + (code_zone map).len ≡ code_end lengths
  pub data_from : (data_zone map).base ≡ code_end lengths
  pub data_to : (data_zone map).base + (data_zone map).len ≡ data_end app (code_end lengths)

-- code to which a vector word can jump
abbrev pub IsInVectorReach : ℕ → Type 0
IsInVectorReach address = (address % 4 ≡ 0) × (boot_base ≤ address) × (address < 0x8010_0400)

-- ---- the extent of each piece, in the order of the addresses

-- the pieces of code at these addresses, of so many instructions, that have any
abbrev pub some_extents : List ℕ → List ℕ → List Extent
some_extents [] sizes = []
some_extents (address ∷ addresses) [] = []
some_extents (address ∷ addresses) (zero ∷ sizes) = some_extents addresses sizes
some_extents (address ∷ addresses) (suc size ∷ sizes) = record { base = address; len = code_byte_count (suc size) } ∷ some_extents addresses sizes

-- vector words, boot, the idle loop, the prologues of so many tasks, the ticks, the wanted services, the items
abbrev pub code_extents : Map → ℕ → CodeLengths → List Extent
code_extents map tasks lengths =
    record { base = vectors_base; len = 128 } ∷ record { base = boot_base; len = code_byte_count lengths.boot } ∷ record { base = map.idle; len = idle_bytes }
    ∷ (extents_of (take tasks map.handlers) (prelude.map code_byte_count lengths.prologues)
    ++ (extents_of (tick_starts lengths) (prelude.map code_byte_count lengths.ticks)
    ++ (some_extents map.places.blocks lengths.services ++ extents_of map.places.items (prelude.map code_byte_count lengths.items))))

-- the symbols
abbrev pub data_extents : Map → App → List Extent
data_extents map app = extents_of map.places.symbols (prelude.map symbol_bytes app.symbols)

-- ---- what must be, so that there is room

-- a prologue has at least one instruction and at most 144
abbrev pub IsSmallPrologue : ℕ → Type 0
IsSmallPrologue size = (1 ≤ size) × (size ≤ 144)

-- a tick has at least one instruction, and at most 11 and 34 for each of 32 alarms
abbrev pub IsSmallTick : ℕ → Type 0
IsSmallTick size = (1 ≤ size) × (size ≤ 1099)

-- The pieces of code are not long: boot, a prologue for each task, a tick for each counter, the wanted services, the items.
pub record AreSmall (config : Config) (app : App) (lengths : CodeLengths) : Type 0 where
  pub boot : (1 ≤ lengths.boot) × (lengths.boot ≤ 136)
  pub prologues : length lengths.prologues ≡ length config.tasks
  pub prologues_fit : All IsSmallPrologue lengths.prologues
  pub ticks : length lengths.ticks ≡ length config.counters
  pub ticks_fit : All IsSmallTick lengths.ticks
  pub services : length lengths.services ≡ block_count
  pub services_fit : All (λ size. size ≤ 256) lengths.services
  -- what has code there is a service with an object that it may have
  pub objects : (number : ℕ) → get_or lengths.services number 0 ≢ 0 → IsServicePlace number
  pub items : AreItemSizes app lengths.items

-- what the tasks need of the stacks: the bytes of each, enough for all its calls and a context, and a part of the shared stack
pub record AreNeeds (config : Config) (app : App) (bounds : Bounds) (offsets : List ℕ) : Type 0 where
  pub are_bounds : AreBounds config app bounds
  pub parts : AreParts config app bounds offsets

-- Task code in range with the lengths of all its code, and what the tasks need of the stacks.
pub record MayPlan (config : Config) (app : App) (lengths : CodeLengths) (bounds : Bounds) (offsets : List ℕ) : Type 0 where
  pub in_range : AppInRange config app
  pub code : AreSmall config app lengths
  pub needs : AreNeeds config app bounds offsets
