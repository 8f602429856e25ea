-- A kernel in place: what the builder says of an image.
use Rattle.std.specs.Prelude.{ℕ, ◌+◌, ◌*◌, ◌<◌, ◌≤◌, ◌≡◌, ◌≢◌, ◌⊎◌, length, map}
use Rattle.sloth_base.specs.declared.image.Image.{Image}
use Rattle.sloth_base.specs.declared.app.Call.{Call}
use Rattle.sloth_base.specs.declared.app.Op.TheVariants as op
use Rattle.sloth_base.specs.declared.service.Service.TheVariants as service
use Rattle.sloth_base.specs.declared.limits.Levels.{Levels}
use Rattle.sloth_base.specs.Named.{operation, function}
use Rattle.sloth_base.specs.MemoryMap.{memory_base, memory_bytes}
use Rattle.code_rules.specs.WellFormed.{WellFormed}
use Rattle.stack_bounds.specs.Bounds.{MayMeet}
use Rattle.sim_laws.specs.Nested.{HasNestedParts}
use Rattle.prio_levels.specs.Levels.{AreLevels}
use Rattle.rv32_expand.specs.Expansion.{item_address, expansion}
use Rattle.service_gen.specs.Calls.{IsAnyServiceBlock}
use Rattle.observe.specs.Observe.{View, view_of_image}
use Rattle.sim_induction.specs.Sound.{Sound}
use Rattle.sim_induction.specs.Weighed.{Weighed}
use Rattle.sim_induction.specs.Paced.{Paced}
use Rattle.sim_induction.specs.Spent.{SpentBySizes}
use Rattle.sim_relation.specs.Bounds.{AreBelow}
use Rattle.sim_relation.specs.Build.{Build, HasFittingPlaces}
use Rattle.sim_relation.specs.Placed.{item_words}
use Rattle.sim_relation.specs.Stands.{AreStacksApart}
use Rattle.sim_routines.specs.Boot.{IsImage}
use Rattle.sim_routines.specs.Codes.{BootStands, PrologueStands}
use Rattle.sim_items.specs.Place.{ItemStands, IsStraight, IsFlow}
use Rattle.sim_items.specs.Outside.{HasIdle}
use Rattle.sim_routines.specs.Opening.{StandsAtBlock}
use Rattle.sim_routines.specs.Stretch.{HasWayBack}
use Rattle.sim_routines.specs.TickSteps.{TickStands}

-- an item computes on registers, frame words and data, and isn't the last one of its function
pub record IsComputingItem (b : Build) (func item : ℕ) : Type 0 where
  pub straight : IsStraight b.app func (operation b.app func item)
  pub more : item + 1 < length (function b.app func).items

-- an item goes on at a label of its function, or may go on there or at the next item
pub record IsFlowItem (b : Build) (func item : ℕ) : Type 0 where
  pub flow : IsFlow b.app func item (operation b.app func item)

-- an item calls a function
pub record IsCallItem (b : Build) (func item : ℕ) : Type 0 where
  pub callee : ℕ
  pub is : operation b.app func item ≡ op.Invoke callee

-- an item returns
pub record IsReturnItem (b : Build) (func item : ℕ) : Type 0 where
  pub is : operation b.app func item ≡ op.Return

-- an item calls a service, whose block for its object stands in the image, apart from the item, as the generator says
pub record IsServiceItem (b : Build) (view : View) (func item : ℕ) : Type 0 where
  pub call : Call
  pub is : operation b.app func item ≡ op.Serve call
  pub levels : Levels
  pub are_levels : AreLevels b.config levels
  pub block : StandsAtBlock b view call.service call.object (IsAnyServiceBlock b.config call.service call.object levels)
  pub in_ram : block.offset < memory_bytes
  pub apart : (memory_base + block.offset < item_address b.places func item)
      ⊎ (item_address b.places func item + 4 * length (expansion b.app b.places func item) ≤ memory_base + block.offset)

-- an item is of one of these kinds
pub data IsKnownItem (b : Build) (view : View) (func item : ℕ) : Type 0 where
  computes : IsComputingItem b func item → IsKnownItem b view func item
  flows : IsFlowItem b func item → IsKnownItem b view func item
  invokes : IsCallItem b func item → IsKnownItem b view func item
  returns : IsReturnItem b func item → IsKnownItem b view func item
  serves : IsServiceItem b view func item → IsKnownItem b view func item

-- where an item calls Schedule, the way back stands in the block for its object
abbrev pub WayBackStands : Build → View → Type 0
WayBackStands b view = (func item : ℕ) (call : Call) → item < length (function b.app func).items → operation b.app func item ≡ op.Serve call
    → call.service ≡ service.Schedule → HasWayBack b view call.object

-- Tasks whose code has only such items, and whose parts of the stacks are apart where they may be in use at once: the code of boot, of the
-- prologues, of ticks, of the idle loop and of the items stands in the image.
pub record Kernel (b : Build) (image : Image) : Type 0 where
  pub fits : HasFittingPlaces b
  pub well_formed : WellFormed b.config b.app
  pub tasks : length image.tasks ≡ length b.config.tasks
  pub counters : image.counters ≡ map (λ c. c.name) b.config.counters
  pub is_image : IsImage b image
  pub bytes : AreBelow 256 image.memory
  pub boot : BootStands b
  pub idle : HasIdle b (view_of_image image)
  pub prologues : (t : ℕ) → t < length b.config.tasks → PrologueStands b t
  pub ticks : (c : ℕ) → c < length b.config.counters → TickStands b c
  -- the parts of tasks that may have something there at once
  pub stacks : (t u : ℕ) → t < length b.config.tasks → u < length b.config.tasks → u ≢ t → MayMeet b.config b.app t u → AreStacksApart b t u
  pub nested : HasNestedParts b
  pub items : (func item : ℕ) → item < length (function b.app func).items → ItemStands b (view_of_image image) func item
  pub operations : (func item : ℕ) → item < length (function b.app func).items → IsKnownItem b (view_of_image image) func item
  pub way_back : WayBackStands b (view_of_image image)

-- Every run of such an image, whatever lines arrive, is one of the abstract scheduler.
abbrev pub KernelIsSound : Type 0
KernelIsSound = (b : Build) (image : Image) → Kernel b image → Sound b.config b.app image

-- None has a stretch that takes more counts than its weight.
abbrev pub KernelIsWeighed : Type 0
KernelIsWeighed = (b : Build) (image : Image) → Kernel b image → Weighed b.config b.app image

-- In each no task spends more on an item than it has instructions.
abbrev pub KernelIsSpent : Type 0
KernelIsSpent = (b : Build) (image : Image) → Kernel b image → SpentBySizes b.config b.app (item_words b) image

-- And in each the events end soon behind one another, by their weights and the items of the task code.
abbrev pub KernelIsPaced : Type 0
KernelIsPaced = (b : Build) (image : Image) → Kernel b image → Paced b.config b.app (item_words b) image
