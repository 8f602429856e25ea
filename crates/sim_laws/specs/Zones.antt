-- What is built in the zones of a map: what the simulation asks of places follows from them.
use Rattle.std.specs.Prelude.{ℕ, ◌+◌, ◌-◌, ◌*◌, ◌%◌, ◌<◌, ◌≤◌, ◌≡◌, ◌≢◌, ◌&&◌, Bool, nat_le, nat_lt, List, length, All, true, slice_index}
use Rattle.sloth_base.specs.Machine.{Core}
use Rattle.sloth_base.specs.declared.app.App.{App}
use Rattle.sloth_base.specs.declared.config.Config.{Config}
use Rattle.sloth_base.specs.MemoryMap.{memory_base, line_count}
use Rattle.sloth_region.specs.declared.region.Extent.{Extent}
use Rattle.sloth_region.specs.declared.region.Map.{Map}
use Rattle.sloth_region.specs.Layout.{context_bytes}
use Rattle.rv32_instr.specs.declared.block.Block.{Block}
use Rattle.rv32_instr.specs.Range.{InRange}
use Rattle.masked_code.specs.Kernel.{CanRun}
use Rattle.code_rules.specs.Code.{IsCalledBy}
use Rattle.sloth_base.specs.declared.limits.Bounds.{Bounds}
use Rattle.sloth_base.specs.Limits.{counter_limit, alarm_limit}
use Rattle.stack_bounds.specs.Bounds.{MayMeet, bytes_of}
use Rattle.sim_relation.specs.Build.{Build, HasFittingPlaces, frame_bytes}
use Rattle.sim_relation.specs.Placed.{IsPlaced}
use Rattle.sim_relation.specs.Stands.{AreStacksApart}
use Rattle.mem_map.specs.Zones.{HasZones, code_zone, data_zone}
use Rattle.mem_map.specs.Stacks.{HasStacks, top_of}
use Rattle.sloth_link.specs.Linked.{BlockStands}
use Rattle.sim_laws.specs.Symbols.{HasSymbols}

-- whether the byte at an offset from 0x80000000 is in an extent
abbrev pub is_in : Extent → ℕ → Bool
is_in e i = nat_le e.base (memory_base + i) && nat_lt (memory_base + i) (e.base + e.len)

-- what is built, by the map
abbrev pub build_of : Config → App → Map → Bounds → ℕ → List ℕ → Build
build_of config app map bounds back memory = record {
  config = config;
  app = app;
  places = map.places;
  low = λ t. top_of map t - bytes_of bounds t - memory_base;
  top = λ t. top_of map t - memory_base;
  is_code = is_in (code_zone map);
  is_data = is_in (data_zone map);
  idle = map.idle;
  back = back;
  memory = memory;
  passed = λ t. 0;
}

-- so many bytes have room for the frames of each chain of calls from a task's body, and a context below them
abbrev pub HoldCalls : App → (task bytes : ℕ) → Type 0
HoldCalls app task bytes = (func : ℕ) (outer : List ℕ) → IsCalledBy app task func outer → context_bytes + frame_bytes app func outer ≤ bytes

-- so have each task's bytes
abbrev pub RoomForCalls : Bounds → Config → App → Type 0
RoomForCalls bounds config app = (task : ℕ) → task < length config.tasks → HoldCalls app task (bytes_of bounds task)

-- a block of code lies in the zone of code, at a multiple of 4
pub record IsInCode (map : Map) (block : Block) : Type 0 where
  pub aligned : block.at % 4 ≡ 0
  pub from : (code_zone map).base ≤ block.at
  pub to : block.at + 4 * length block.code ≤ (code_zone map).base + (code_zone map).len

-- a configuration has no more counters and alarms than the service words have room for
abbrev pub HasFewAlarms : Config → Type 0
HasFewAlarms config = (length config.counters ≤ counter_limit) × (length config.alarms ≤ alarm_limit)

-- ---- the laws: one lemma each

-- what is built fits where the image has zones
abbrev pub ZonesFit : Type 0
ZonesFit = (config : Config) (app : App) (map : Map) (bounds : Bounds) (back : ℕ) (memory : List ℕ) → HasZones map config → HasFewAlarms config
    → HasStacks config app bounds map → RoomForCalls bounds config app → HasSymbols map app → back % 4 ≡ 0 → HasFittingPlaces (build_of config app map bounds back memory)

-- the parts of two tasks that may have something there at once are apart
abbrev pub StacksAreApart : Type 0
StacksAreApart = (config : Config) (app : App) (map : Map) (bounds : Bounds) (back : ℕ) (memory : List ℕ) → HasZones map config
    → HasStacks config app bounds map
    → (t u : ℕ) → t < length config.tasks → u < length config.tasks → u ≢ t → MayMeet config app t u → AreStacksApart (build_of config app map bounds back memory) t u

-- every block of a list that is linked is placed
abbrev pub BlocksArePlaced : Type 0
BlocksArePlaced = (config : Config) (app : App) (map : Map) (bounds : Bounds) (back : ℕ) (memory : List ℕ) (blocks : List Block) → HasZones map config
    → All (λ b. All InRange b.code) blocks → All (IsInCode map) blocks → All (BlockStands memory) blocks
    → All (λ b. IsPlaced (build_of config app map bounds back memory) (b.at - memory_base) b.code) blocks

-- every block can run wherever the bytes of code are those that were linked
abbrev pub BlocksCanRun : Type 0
BlocksCanRun = (config : Config) (app : App) (map : Map) (bounds : Bounds) (back : ℕ) (memory : List ℕ) (blocks : List Block) (core : Core)
    → HasZones map config → HasFewAlarms config
    → HasStacks config app bounds map → RoomForCalls bounds config app → HasSymbols map app → back % 4 ≡ 0 → All (λ b. All InRange b.code) blocks
    → All (IsInCode map) blocks → All (BlockStands memory) blocks → All (λ b. 0 < length b.code) blocks → core.controller ≡ true
    → length core.registers ≡ 32 → slice_index core.registers 0 ≡ 0 → length core.pending ≡ line_count
    → ((i : ℕ) → is_in (code_zone map) i ≡ true → slice_index core.ram i ≡ slice_index memory i)
    → All (λ b. CanRun (b.at - memory_base) b.code core) blocks
