-- What the image of gathered code is, and by which map.
use Rattle.std.specs.Prelude.{ℕ, ◌+◌, ◌%◌, ◌≤◌, ◌≡◌, List, length, All}
use Rattle.std.specs.List.Sorted.{IsPermutation, IsStrictlyIncreasing}
use Rattle.sloth_base.specs.declared.app.App.{App}
use Rattle.sloth_base.specs.declared.config.Config.{Config}
use Rattle.sloth_base.specs.declared.image.Image.{Image}
use Rattle.sloth_base.specs.declared.image.Mark.{Mark}
use Rattle.sloth_base.specs.declared.limits.Bounds.{Bounds}
use Rattle.sloth_base.specs.declared.limits.Levels.{Levels}
use Rattle.sloth_base.specs.MemoryMap.{memory_base}
use Rattle.sloth_region.specs.declared.region.Map.{Map}
use Rattle.rv32_instr.specs.declared.block.Block.{Block}
use Rattle.sim_relation.specs.Bounds.{AreBelow}
use Rattle.sloth_link.specs.declared.linking.Datum.{Datum}
use Rattle.stack_bounds.specs.Bounds.{AreBounds}
use Rattle.prio_levels.specs.Levels.{AreLevels}
use Rattle.mem_map.specs.Planned.{IsPlanned}
use Rattle.mem_map.specs.Stacks.{address_behind_data}
use Rattle.mem_map.specs.Sections.{addresses, marks_of}
use Rattle.sim_laws.specs.GeneratedZones.{HasCode, HasItemBlocks}
use Rattle.sim_laws.specs.Rooms.{HasOwnMarks}
use Rattle.sim_laws.specs.LinkedImages.{IsLinkedIn}
use Rattle.sloth_build.specs.Gathered.{MarksInFormat}

-- these bytes and marks are those blocks and the data of the task code, linked
pub record IsImageOf (config : Config) (app : App) (levels : Levels) (map : Map) (memory : List ℕ) (marks : List Mark) : Type 0 where
  pub size : ℕ
  pub blocks : List Block
  pub symbols : List Datum
  pub bounds : Bounds
  pub linked : IsLinkedIn map config app bounds size blocks symbols memory
  pub has_code : HasCode config app levels map blocks
  pub has_items : HasItemBlocks config app map.places blocks
  pub whole_words : size % 4 ≡ 0
  -- the memory ends with the zone of data
  pub ends : memory_base + length memory ≡ address_behind_data map
  pub few : length blocks ≤ 8192
  pub few_marks : All (λ b. length b.marks ≤ 2) blocks
  pub format : All (MarksInFormat config app) blocks
  pub own_marks : All HasOwnMarks blocks
  pub marks_are : IsPermutation (marks_of blocks) marks
  pub ascending : IsStrictlyIncreasing (addresses marks)
  pub bytes : AreBelow 256 memory

-- The image is of the map that is planned for the task code by these bytes of stack: the vector words, boot, the idle loop, each prologue, tick,
-- service and item, and each symbol stands where that map has it.
pub record IsOfPlannedMap (config : Config) (app : App) (bounds : Bounds) (image : Image) : Type 0 where
  pub map : Map
  pub levels : Levels
  pub are_levels : AreLevels config levels
  pub planned : IsPlanned config app bounds map
  pub is : IsImageOf config app levels map image.memory image.marks

-- the same, by the bytes of stack that its tasks may need
pub record HasPlannedMap (config : Config) (app : App) (image : Image) : Type 0 where
  pub bounds : Bounds
  pub are_bounds : AreBounds config app bounds
  pub by_map : IsOfPlannedMap config app bounds image
