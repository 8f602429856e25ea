-- What is linked into an image: the blocks of routines, the items of the task code, the words of alarms, and the bytes of the symbols.
use Rattle.std.specs.Prelude.{ℕ, ◌+◌, ◌-◌, ◌<◌, ◌≤◌, ◌≡◌, List, ◌++◌, length, All, slice_index}
use Rattle.std.specs.List.Sorted.{IsPermutation, IsStrictlyIncreasing}
use Rattle.sloth_base.specs.Named.{declaration}
use Rattle.sloth_base.specs.declared.app.App.{App}
use Rattle.sloth_base.specs.declared.config.Config.{Config}
use Rattle.sloth_base.specs.declared.image.Mark.{Mark}
use Rattle.sloth_base.specs.MemoryMap.{memory_base, vectors_base}
use Rattle.sloth_region.specs.declared.region.Map.{Map}
use Rattle.code_rules.specs.WellFormed.{WellFormed}
use Rattle.rv32_instr.specs.declared.block.Block.{Block}
use Rattle.rv32_instr.specs.Range.{InRange}
use Rattle.rv32_expand.specs.InPlace.{IsBodyName}
use Rattle.rv32_expand.specs.Sizes.{AgreeWithSizes, HasWordAddresses}
use Rattle.mem_map.specs.Zones.{data_zone}
use Rattle.sloth_link.specs.declared.linking.Datum.{Datum}
use Rattle.sloth_link.specs.Items.{MarksAreOfItems, item_blocks}
use Rattle.sloth_link.specs.Linked.{AreLinked, BlockStands, HaveRoom, HasSectionBytes, datum_section, sections_of}
use Rattle.mem_map.specs.Sections.{HaveOwnAddresses, addresses, marks_of}
use Rattle.sloth_link.specs.Standing.{HasItemsInPlace}
use Rattle.sloth_link.specs.Symbols.{alarm_data, data_of}

-- the blocks of routines, and behind them the items, each as a block of its own at its address in the map
abbrev pub all_blocks : App → Map → List Block → List Block
all_blocks app map blocks = blocks ++ item_blocks app map.places (length app.funcs)

-- the bytes of the symbols at their addresses in the map
abbrev pub symbol_data : App → Map → List Datum
symbol_data app map = data_of map.places.symbols app.symbols

-- the words of the alarms, and behind them the bytes of the symbols
abbrev pub all_data : Config → App → Map → List Datum
all_data config app map = alarm_data 0 config.alarms ++ symbol_data app map

-- the bytes of memory up to the end of the zone of data
abbrev pub memory_size : Map → ℕ
memory_size map = (data_zone map).base + (data_zone map).len - memory_base

-- Routines that can be linked with well-formed task code by its map: all blocks and symbols have room apart from one another, behind the
-- service words, where those of alarms stand. The body of each task has the task's name.
pub record MayLink (config : Config) (app : App) (map : Map) (blocks : List Block) : Type 0 where
  pub well_formed : WellFormed config app
  pub named : (t : ℕ) → t < length config.tasks → IsBodyName app t (declaration config t).name
  -- what the map has of the task code
  pub agree : AgreeWithSizes app map.places
  pub covers : HasWordAddresses app map.places
  pub symbols : length map.places.symbols ≡ length app.symbols
  pub zones : 2 < length map.extents
  pub above : vectors_base ≤ (data_zone map).base
  pub below : (data_zone map).base + (data_zone map).len < 4294967296
  pub room : HaveRoom (memory_size map) (all_blocks app map blocks) (symbol_data app map)
  -- all of them stand behind the service words
  pub blocks_behind : All (λ b. vectors_base ≤ b.at) (all_blocks app map blocks)
  pub symbols_behind : All (λ d. vectors_base ≤ d.at) (symbol_data app map)
  -- no mark of a routine is one of an item, and no two marks have one address
  pub routines : All (MarksAreOfItems app map.places) blocks
  pub own_addresses : HaveOwnAddresses (marks_of (all_blocks app map blocks))

-- What is linked of them: a memory in which all blocks and data stand, with zeros elsewhere, and the marks of all blocks by rising addresses.
pub record HasMemory (config : Config) (app : App) (map : Map) (blocks : List Block) (memory : List ℕ) (marks : List Mark) : Type 0 where
  pub stand : HasItemsInPlace app map.places memory marks
  pub range : All (λ b. All InRange b.code) (all_blocks app map blocks)
  pub code : All (BlockStands memory) (all_blocks app map blocks)
  pub data_stands : All (λ d. HasSectionBytes memory (datum_section d)) (all_data config app map)
  pub linked : AreLinked (memory_size map) (sections_of (all_blocks app map blocks) (all_data config app map)) memory
  pub bytes : (i : ℕ) → slice_index memory i < 256
  pub moved : IsPermutation (marks_of (all_blocks app map blocks)) marks
  pub ascending : IsStrictlyIncreasing (addresses marks)
