-- What is linked is an image of what is built: the words of its counters and alarms stand, all service words outside the bytes of the clock
-- (364 to 627) are zero, and its symbols stand.
use Rattle.std.specs.Prelude.{ℕ, ◌≤◌, ◌≡◌, List, All}
use Rattle.sloth_base.specs.declared.app.App.{App}
use Rattle.sloth_base.specs.declared.config.Config.{Config}
use Rattle.sloth_base.specs.declared.image.Image.{Image}
use Rattle.sloth_region.specs.declared.region.Map.{Map}
use Rattle.rv32_instr.specs.declared.block.Block.{Block}
use Rattle.rv32_instr.specs.Range.{InRange}
use Rattle.sloth_base.specs.ConfigRange as config_range
use Rattle.sim_routines.specs.Boot.{IsImage}
use Rattle.sloth_link.specs.declared.linking.Datum.{Datum}
use Rattle.sloth_link.specs.Linked.{BlockStands, AreLinked, sections_of, HaveRoom}
use Rattle.mem_map.specs.Zones.{HasZones}
use Rattle.mem_map.specs.Stacks.{HasStacks}
use Rattle.sloth_base.specs.declared.limits.Bounds.{Bounds}
use Rattle.sloth_base.specs.MemoryMap.{memory_bytes}
use Rattle.sloth_link.specs.Image.{all_data}
use Rattle.sim_laws.specs.Symbols.{HasSymbols}
use Rattle.sim_laws.specs.Zones.{IsInCode, RoomForCalls, build_of}

-- blocks that lie in the zone of code, and the words of alarms and the symbols at their places, were linked
pub record IsLinkedIn (map : Map) (config : Config) (app : App) (bounds : Bounds) (size : ℕ)
    (blocks : List Block) (symbols : List Datum) (memory : List ℕ) : Type 0 where
  pub zones : HasZones map config
  pub has_stacks : HasStacks config app bounds map
  pub calls_fit : RoomForCalls bounds config app
  pub small : size ≤ memory_bytes
  pub in_code : All (IsInCode map) blocks
  pub in_range : All (λ b. All InRange b.code) blocks
  pub has_symbols : HasSymbols map app
  pub data_are : symbols ≡ all_data config app map
  pub room : HaveRoom size blocks symbols
  pub linked : AreLinked size (sections_of blocks symbols) memory
  pub code : All (BlockStands memory) blocks

-- it is an image of what is built
abbrev pub LinkedIsImage : Type 0
LinkedIsImage = (map : Map) (config : Config) (app : App) (bounds : Bounds) (size : ℕ) (blocks : List Block) (symbols : List Datum) (image : Image) (back : ℕ)
    → config_range.InRange config → IsLinkedIn map config app bounds size blocks symbols image.memory → IsImage (build_of config app map bounds back image.memory) image
