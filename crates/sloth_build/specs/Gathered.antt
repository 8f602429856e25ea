-- What the code of an image is generated from, and the blocks of that code.
use Rattle.std.specs.Prelude.{ℕ, ◌%◌, ◌<◌, ◌≤◌, ◌≡◌, List, length, All, slice_index}
use Rattle.sloth_base.specs.ImageRange.{AreFields, service_limit}
use Rattle.sloth_base.specs.Named.{declaration}
use Rattle.sloth_base.specs.declared.app.App.{App}
use Rattle.sloth_base.specs.declared.config.Config.{Config}
use Rattle.sloth_base.specs.declared.image.Mark.{Mark}
use Rattle.sloth_base.specs.declared.limits.Bounds.{Bounds}
use Rattle.sloth_base.specs.declared.limits.Levels.{Levels}
use Rattle.sloth_base.specs.MemoryMap.{vectors_base}
use Rattle.sloth_base.specs.Limits.{level_count}
use Rattle.sloth_region.specs.declared.region.Map.{Map}
use Rattle.code_rules.specs.WellFormed.{WellFormed}
use Rattle.stack_bounds.specs.Bounds.{AreBounds}
use Rattle.prio_levels.specs.Levels.{AreLevels}
use Rattle.rv32_instr.specs.declared.block.Block.{Block}
use Rattle.rv32_expand.specs.InPlace.{IsBodyName}
use Rattle.mem_map.specs.Plan.{code_end, code_extents}
use Rattle.mem_map.specs.Planned.{IsPlanned}
use Rattle.sloth_link.specs.Image.{all_blocks}
use Rattle.sloth_link.specs.Items.{MarksAreOfItems}
use Rattle.sim_laws.specs.GeneratedZones.{HasCode, HasItemBlocks}
use Rattle.sim_laws.specs.Rooms.{FitRooms, FollowClosely}

-- Well-formed task code with its levels, and its map by the bytes of stack that its tasks may need. The body of each task has the task's name.
pub record MayGenerate (config : Config) (app : App) (levels : Levels) (map : Map) : Type 0 where
  pub well_formed : WellFormed config app
  pub named : (t : ℕ) → t < length config.tasks → IsBodyName app t (declaration config t).name
  pub are_levels : AreLevels config levels
  pub small : (levels.top < level_count) × ((t : ℕ) → slice_index levels.task t < level_count)
  pub bounds : Bounds
  pub are_bounds : AreBounds config app bounds
  pub planned : IsPlanned config app bounds map

-- a mark is as the format of images wants it; so are those of a block
abbrev pub IsInFormat : Config → App → Mark → Type 0
IsInFormat config app mark =
    (mark.address % 4 ≡ 0) × AreFields (service_limit (length config.counters)) (length app.funcs) mark.kind mark.a mark.b mark.c

abbrev pub MarksInFormat : Config → App → Block → Type 0
MarksInFormat config app block = All (IsInFormat config app) block.marks

-- the blocks are all routines that the image needs: with the items, each where the map has room for it, with no hole between them
pub record IsGathered (config : Config) (app : App) (levels : Levels) (map : Map) (blocks : List Block) : Type 0 where
  pub code : HasCode config app levels map (all_blocks app map blocks)
  pub items : HasItemBlocks config app map.places (all_blocks app map blocks)
  pub routines : All (MarksAreOfItems app map.places) blocks
  pub bounds : Bounds
  pub are_bounds : AreBounds config app bounds
  pub planned : IsPlanned config app bounds map
  pub rooms : FitRooms (code_extents map (length config.tasks) planned.lengths) (all_blocks app map blocks)
  pub close : FollowClosely vectors_base (code_end planned.lengths) (all_blocks app map blocks)
  pub few : length (all_blocks app map blocks) ≤ 8192
  pub format : All (MarksInFormat config app) (all_blocks app map blocks)

-- ---- what is built

-- Well-formed task code with the bytes of stack that its tasks may need. The body of each task has the task's name.
pub record MayBuild (config : Config) (app : App) (bounds : Bounds) : Type 0 where
  pub well_formed : WellFormed config app
  pub named : (t : ℕ) → t < length config.tasks → IsBodyName app t (declaration config t).name
  pub are_bounds : AreBounds config app bounds
