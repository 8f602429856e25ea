-- The symbols of task code, one behind the other in the zone of data.
use Rattle.std.specs.Prelude.{ℕ, ◌+◌, ◌%◌, ◌<◌, ◌≤◌, ◌≡◌, ◌≢◌, length, All}
use Rattle.std.specs.Prelude as prelude
use Rattle.sloth_base.specs.Named.{symbol_size}
use Rattle.sloth_base.specs.declared.app.App.{App}
use Rattle.sloth_base.specs.MemoryMap.{memory_base}
use Rattle.sloth_region.specs.declared.region.Map.{Map}
use Rattle.sloth_region.specs.Region.{FollowWithin}
use Rattle.rv32_expand.specs.Expansion.{symbol_address}
use Rattle.mem_map.specs.Plan.{data_extents}
use Rattle.mem_map.specs.Zones.{data_zone}
use Rattle.sloth_link.specs.declared.linking.Datum.{Datum}
use Rattle.sloth_link.specs.Linked.{datum_section}
use Rattle.sloth_link.specs.Room.{AreIn}
use Rattle.sloth_link.specs.Symbols.{data_of}

-- each symbol has its own room at a multiple of 4, in the order of the symbols
pub record HasSymbols (map : Map) (app : App) : Type 0 where
  pub count : length map.places.symbols ≡ length app.symbols
  pub aligned : All (λ address. address % 4 ≡ 0) map.places.symbols
  pub follow : FollowWithin (data_zone map).base ((data_zone map).base + (data_zone map).len) (data_extents map app)

-- bytes of a symbol lie in the zone of data
pub record IsInData (map : Map) (datum : Datum) : Type 0 where
  pub from : (data_zone map).base ≤ datum.at
  pub to : datum.at + length datum.bytes ≤ (data_zone map).base + (data_zone map).len

-- where the image has zones, the symbols lie in that of data
abbrev pub SymbolsAreInData : Type 0
SymbolsAreInData = (map : Map) (app : App) → HasSymbols map app → All (IsInData map) (data_of map.places.symbols app.symbols)

-- each symbol's bytes lie as a section in its own room
abbrev pub SymbolsAreIn : Type 0
SymbolsAreIn = (map : Map) (app : App) → memory_base ≤ (data_zone map).base → HasSymbols map app
    → AreIn (data_extents map app) (prelude.map datum_section (data_of map.places.symbols app.symbols))

-- no byte of a symbol has the address of one of another symbol
abbrev pub SymbolsAreApart : Type 0
SymbolsAreApart = (map : Map) (app : App) → HasSymbols map app → (y z i j : ℕ) → y ≢ z → i < symbol_size app y → j < symbol_size app z
    → symbol_address map.places y + i ≢ symbol_address map.places z + j
