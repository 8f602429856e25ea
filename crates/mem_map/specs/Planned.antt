-- What a plan gives: each piece of code and data that task code needs has room of its own, at the address that the map has for it.
use Rattle.std.specs.Prelude.{ℕ, ◌<◌, length, slice_index}
use Rattle.std.specs.Prelude as prelude
use Rattle.sloth_base.specs.declared.app.App.{App}
use Rattle.sloth_base.specs.declared.config.Config.{Config}
use Rattle.sloth_base.specs.declared.limits.Bounds.{Bounds}
use Rattle.sloth_base.specs.MemoryMap.{vectors_base, line_count}
use Rattle.sloth_region.specs.declared.region.Map.{Map}
use Rattle.sloth_region.specs.Region.{FollowWithin}
use Rattle.rv32_expand.specs.Sizes.{AgreeWithSizes, HasWordAddresses}
use Rattle.mem_map.specs.declared.all_lengths.CodeLengths.{CodeLengths}
use Rattle.mem_map.specs.Lengths.{AreLengths}
use Rattle.mem_map.specs.Plan.{HasAddresses, IsInVectorReach, code_end, code_extents, data_end, data_extents, symbol_bytes}
use Rattle.mem_map.specs.Run.{AreClose}
use Rattle.mem_map.specs.Starts.{end_of}
use Rattle.mem_map.specs.Stacks.{HasStacks}
use Rattle.mem_map.specs.Zones.{HasZones}

-- the map of task code, with the bytes of stack that its tasks may need
pub record IsPlanned (config : Config) (app : App) (bounds : Bounds) (map : Map) : Type 0 where
  pub lengths : CodeLengths
  pub are_lengths : AreLengths config app lengths
  pub zones : HasZones map config
  pub stacks : HasStacks config app bounds map
  pub addresses : HasAddresses config app lengths map
  -- the vector words can jump to their routines, and all code spans less than 1 MiB
  pub reach : (line : ℕ) → line < line_count → IsInVectorReach (slice_index map.handlers line)
  pub near : code_end lengths < 0x8010_0400
  -- the extents of all code, and those of the symbols, follow one another without a hole
  pub code_follows : FollowWithin vectors_base (code_end lengths) (code_extents map (length config.tasks) lengths)
  pub code_close : AreClose vectors_base (code_end lengths) (code_extents map (length config.tasks) lengths)
  pub data_follows : FollowWithin (code_end lengths) (data_end app (code_end lengths)) (data_extents map app)
  pub data_close : AreClose (code_end lengths) (end_of (code_end lengths) (prelude.map symbol_bytes app.symbols)) (data_extents map app)
  pub agree : AgreeWithSizes app map.places
  pub covers : HasWordAddresses app map.places
