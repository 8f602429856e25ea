-- A kernel in place, said by the contracts of what generates its code.
use Rattle.std.specs.Prelude.{ℕ, ◌+◌, ◌<◌, ◌≤◌, ◌≡◌, ◌≢◌, List, length, slice_index}
use Rattle.std.specs.Prelude as prelude
use Rattle.sloth_base.specs.declared.image.Image.{Image}
use Rattle.sloth_base.specs.Owners.{counter_line}
use Rattle.sloth_base.specs.declared.limits.Levels.{Levels}
use Rattle.sloth_region.specs.declared.region.Map.{Map}
use Rattle.rv32_instr.specs.declared.InstrKind.{InstrKind}
use Rattle.observe.specs.Observe.{view_of_image}
use Rattle.code_rules.specs.WellFormed.{WellFormed}
use Rattle.stack_bounds.specs.Bounds.{MayMeet}
use Rattle.sloth_base.specs.Named.{body_of}
use Rattle.sloth_base.specs.Named.{function}
use Rattle.sloth_base.specs.MemoryMap.{memory_base, line_count}
use Rattle.sloth_base.specs.Limits.{frame_limit}
use Rattle.prio_levels.specs.Levels.{AreLevels}
use Rattle.vector_gen.specs.Boot.{IsBootCode}
use Rattle.vector_gen.specs.Vectors.{AreJumps}
use Rattle.vector_gen.specs.Places.{IsTaskPrologue}
use Rattle.sim_relation.specs.Bounds.{AreBelow}
use Rattle.sim_relation.specs.Build.{Build, HasFittingPlaces}
use Rattle.sim_relation.specs.Placed.{IsPlaced}
use Rattle.sim_relation.specs.Stands.{AreStacksApart}
use Rattle.sim_routines.specs.Boot.{IsImage}
use Rattle.sim_routines.specs.Entries.{body_frame_words}
use Rattle.sim_routines.specs.Generated.{HasOneBody}
use Rattle.sim_items.specs.Place.{ItemStands}
use Rattle.sim_items.specs.Outside.{HasIdle}
use Rattle.sim_routines.specs.TickSteps.{IsTick}
use Rattle.sim_laws.specs.Kernel.{Kernel, IsKnownItem, WayBackStands}
use Rattle.sim_laws.specs.Nested.{HasNestedParts}

-- the prologue of a task stands where the map has the handler of its line
pub record HasPrologue (b : Build) (levels : Levels) (map : Map) (t : ℕ) : Type 0 where
  pub code : List InstrKind
  pub enters : IsTaskPrologue t b.config b.app levels map code
  pub offset : ℕ
  pub is : slice_index map.handlers t ≡ memory_base + offset
  pub placed : IsPlaced b offset code
  pub one_body : HasOneBody b t
  pub few_words : body_frame_words b t ≤ frame_limit
  pub has_item : 0 < length (function b.app (body_of b.app.funcs t)).items

-- so does the tick of a counter
pub record HasTick (b : Build) (map : Map) (c : ℕ) : Type 0 where
  pub code : List InstrKind
  pub is_tick : IsTick b.config c code
  pub offset : ℕ
  pub is : slice_index map.handlers (counter_line c) ≡ memory_base + offset
  pub placed : IsPlaced b offset code

-- By the levels and the map: the vector words, boot, the idle loop, a prologue for each task, a tick for each counter, and the items with their services.
pub record IsGenerated (b : Build) (image : Image) (levels : Levels) (map : Map) : Type 0 where
  pub fits : HasFittingPlaces b
  pub well_formed : WellFormed b.config b.app
  pub are_levels : AreLevels b.config levels
  pub places : b.places ≡ map.places
  pub idle_is : b.idle ≡ map.idle
  pub tops : (t : ℕ) → t < length b.config.tasks → memory_base + b.top t ≡ slice_index map.tops t
  pub tasks : length image.tasks ≡ length b.config.tasks
  pub counters : image.counters ≡ prelude.map (λ c. c.name) b.config.counters
  pub is_image : IsImage b image
  pub bytes : AreBelow 256 image.memory
  pub vectors : List InstrKind
  pub jumps : AreJumps line_count map.handlers vectors
  pub vectors_placed : IsPlaced b 0x400 vectors
  pub boot : List InstrKind
  pub boots : IsBootCode b.config.tasks (length b.config.counters) levels.task levels.top map.idle boot
  pub boot_placed : IsPlaced b 0x480 boot
  pub idle : HasIdle b (view_of_image image)
  pub prologues : (t : ℕ) → t < length b.config.tasks → HasPrologue b levels map t
  pub ticks : (c : ℕ) → c < length b.config.counters → HasTick b map c
  pub stacks : (t u : ℕ) → t < length b.config.tasks → u < length b.config.tasks → u ≢ t → MayMeet b.config b.app t u → AreStacksApart b t u
  pub nested : HasNestedParts b
  pub items : (func item : ℕ) → item < length (function b.app func).items → ItemStands b (view_of_image image) func item
  pub operations : (func item : ℕ) → item < length (function b.app func).items → IsKnownItem b (view_of_image image) func item
  pub way_back : WayBackStands b (view_of_image image)

-- What is generated so is a kernel in place.
abbrev pub GeneratedIsKernel : Type 0
GeneratedIsKernel = (b : Build) (image : Image) (levels : Levels) (map : Map) → IsGenerated b image levels map → Kernel b image
