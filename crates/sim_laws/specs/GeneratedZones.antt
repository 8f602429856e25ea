-- Every piece of generated code is one of the blocks that were linked; so what is built is generated.
use Rattle.std.specs.Prelude.{ℕ, ◌+◌, ◌%◌, ◌<◌, ◌≡◌, List, [], ◌∷◌, length, All, Contains, slice_index}
use Rattle.std.specs.Prelude as prelude
use Rattle.std.specs.List.Sorted.{IsPermutation, IsStrictlyIncreasing}
use Rattle.sloth_base.specs.Named.{operation}
use Rattle.sloth_base.specs.Owners.{counter_line}
use Rattle.sloth_base.specs.ServiceCodes.{code_of}
use Rattle.sloth_base.specs.declared.app.App.{App}
use Rattle.sloth_base.specs.declared.app.Call.{Call}
use Rattle.sloth_base.specs.declared.app.Op.TheVariants as op
use Rattle.sloth_base.specs.declared.config.Config.{Config}
use Rattle.sloth_base.specs.declared.image.Image.{Image}
use Rattle.sloth_base.specs.declared.image.Mark.{Mark}
use Rattle.sloth_base.specs.declared.limits.Levels.{Levels}
use Rattle.sloth_base.specs.declared.limits.Places.{Places}
use Rattle.sloth_base.specs.declared.service.Service.TheVariants as service
use Rattle.sloth_base.specs.MemoryMap.{vectors_base, boot_base, line_count}
use Rattle.sloth_region.specs.declared.region.Map.{Map}
use Rattle.code_rules.specs.WellFormed.{WellFormed}
use Rattle.sloth_base.specs.declared.limits.Bounds.{Bounds}
use Rattle.rv32_instr.specs.declared.InstrKind.{InstrKind}
use Rattle.rv32_instr.specs.declared.block.Block.{Block}
use Rattle.rv32_expand.specs.Expansion.{block_address}
use Rattle.rv32_expand.specs.InPlace.{IsAppItem, ItemsInPlace}
use Rattle.rv32_expand.specs.Sizes.{AgreeWithSizes}
use Rattle.prio_levels.specs.Levels.{AreLevels}
use Rattle.vector_gen.specs.Boot.{IsBootCode}
use Rattle.vector_gen.specs.Idle.{IsIdleCode, idle_mark}
use Rattle.vector_gen.specs.Vectors.{AreJumps}
use Rattle.vector_gen.specs.Places.{IsTaskPrologue}
use Rattle.service_gen.specs.TaskBlock.{further_marks}
use Rattle.block_parts.specs.Marks.{opening}
use Rattle.service_gen.specs.Schedule.{way_back}
use Rattle.service_gen.specs.Calls.{IsAnyServiceBlock}
use Rattle.sim_relation.specs.Bounds.{AreBelow}
use Rattle.sim_routines.specs.TickSteps.{IsTick}
use Rattle.sim_laws.specs.Generated.{IsGenerated}
use Rattle.sloth_link.specs.declared.linking.Datum.{Datum}
use Rattle.mem_map.specs.Sections.{marks_of, addresses}
use Rattle.sim_laws.specs.Zones.{build_of}
use Rattle.sim_laws.specs.Rooms.{HasOwnMarks}
use Rattle.sloth_link.specs.Items.{HaveItems, MarksAreOfItems}
use Rattle.sloth_link.specs.Standing.{HasNames}
use Rattle.sim_laws.specs.LinkedImages.{IsLinkedIn}

-- one of the blocks stands at this address, with these marks, and its code does this
pub record HasBlockWith (blocks : List Block) (address : ℕ) (marks : List Mark) (Does : List InstrKind → Type 0) : Type 0 where
  pub block : Block
  pub among : Contains blocks block
  pub at : block.at ≡ address
  pub marks_are : block.marks ≡ marks
  pub does : Does block.code

-- the code that every kernel has is among the blocks, by the contracts of the generators
pub record HasCode (config : Config) (app : App) (levels : Levels) (map : Map) (blocks : List Block) : Type 0 where
  pub vectors : HasBlockWith blocks vectors_base [] (AreJumps line_count map.handlers)
  pub boot : HasBlockWith blocks boot_base [] (IsBootCode config.tasks (length config.counters) levels.task levels.top map.idle)
  pub idle : HasBlockWith blocks map.idle (idle_mark map.idle ∷ []) IsIdleCode
  pub prologues : (t : ℕ) → t < length config.tasks → HasBlockWith blocks (slice_index map.handlers t) [] (IsTaskPrologue t config app levels map)
  pub ticks : (c : ℕ) → c < length config.counters → HasBlockWith blocks (slice_index map.handlers (counter_line c)) [] (IsTick config c)
  -- the code of each service that an item calls
  pub services : (func item : ℕ) (call : Call) → IsAppItem app func item → operation app func item ≡ op.Serve call
      → HasBlockWith blocks (block_address map.places call.service call.object)
      (opening (block_address map.places call.service call.object) (code_of call.service)
      ∷ further_marks call.service (block_address map.places call.service call.object)) (IsAnyServiceBlock config call.service call.object levels)

-- each item of the task code is a block of its own, at addresses that agree with the lengths, and no other block has its mark
pub record HasItemBlocks (config : Config) (app : App) (places : Places) (blocks : List Block) : Type 0 where
  pub well_formed : WellFormed config app
  pub agree : AgreeWithSizes app places
  pub items : HaveItems app places blocks
  pub own : All (MarksAreOfItems app places) blocks

-- An image is built by the levels and the map: of blocks with the code of the generators and of the items, which were linked.
pub record IsBuiltBy (config : Config) (app : App) (levels : Levels) (map : Map) (bounds : Bounds) (back size : ℕ) (blocks : List Block) (symbols : List Datum)
    (image : Image) : Type 0 where
  pub are_levels : AreLevels config levels
  pub counters : image.counters ≡ prelude.map (λ c. c.name) config.counters
  pub linked : IsLinkedIn map config app bounds size blocks symbols image.memory
  pub has_code : HasCode config app levels map blocks
  pub has_items : HasItemBlocks config app map.places blocks
  pub own_marks : All HasOwnMarks blocks
  pub marks : IsPermutation (marks_of blocks) image.marks
  pub ascending : IsStrictlyIncreasing (addresses image.marks)
  pub names : HasNames image config app
  pub bytes : AreBelow 256 image.memory
  pub back_aligned : back % 4 ≡ 0
  -- the way back from Schedule stands in its block
  pub back_is : (func item : ℕ) (call : Call) → IsAppItem app func item → operation app func item ≡ op.Serve call → call.service ≡ service.Schedule
      → back ≡ block_address map.places call.service call.object + way_back

-- so it is generated
abbrev pub BuiltIsGenerated : Type 0
BuiltIsGenerated = (config : Config) (app : App) (levels : Levels) (map : Map) (bounds : Bounds) (back size : ℕ) (blocks : List Block) (symbols : List Datum)
    (image : Image) → IsBuiltBy config app levels map bounds back size blocks symbols image
    → IsGenerated (build_of config app map bounds back image.memory) image levels map

-- and its items are in place
abbrev pub BuiltIsInPlace : Type 0
BuiltIsInPlace = (config : Config) (app : App) (levels : Levels) (map : Map) (bounds : Bounds) (back size : ℕ) (blocks : List Block) (symbols : List Datum)
    (image : Image) → IsBuiltBy config app levels map bounds back size blocks symbols image → ItemsInPlace image config app
