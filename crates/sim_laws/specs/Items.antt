-- From the items of task code in an image to those of a kernel in place.
use Rattle.std.specs.Prelude.{ℕ, ◌+◌, ◌*◌, ◌<◌, ◌≤◌, ◌≡◌, ◌≢◌, true, length, Some, All, Contains}
use Rattle.sloth_base.specs.declared.image.Image.{Image}
use Rattle.sloth_base.specs.declared.image.Mark.{Mark}
use Rattle.sloth_base.specs.declared.app.Call.{Call}
use Rattle.sloth_base.specs.declared.app.Op.TheVariants as op
use Rattle.rv32_instr.specs.Range.{InRange}
use Rattle.rv32_expand.specs.Expansion.{item_address, expansion}
use Rattle.sloth_base.specs.Named.{operation}
use Rattle.rv32_expand.specs.InPlace.{IsAppItem, ItemsInPlace}
use Rattle.code_rules.specs.WellFormed.{WellFormed}
use Rattle.observe.specs.Observe.{View, mark_at, view_of_image}
use Rattle.sloth_base.specs.ImageRange.{AreAscending}
use Rattle.sloth_base.specs.MemoryMap.{memory_base, memory_bytes}
use Rattle.sim_relation.specs.Build.{Build}
use Rattle.sim_items.specs.Place.{ItemStands}
use Rattle.sim_laws.specs.Kernel.{IsKnownItem}

-- The items of the task code stand in the image, among the code of what is built. The marks rise, and none stands inside an
-- expansion but at its last instruction.
pub record HasItems (b : Build) (image : Image) : Type 0 where
  pub in_place : ItemsInPlace image b.config b.app
  pub places : in_place.places ≡ b.places
  pub memory : image.memory ≡ b.memory
  pub size : length b.memory ≤ memory_bytes
  pub is_code : (func item i : ℕ) → IsAppItem b.app func item → item_address b.places func item ≤ memory_base + i
      → memory_base + i < item_address b.places func item + 4 * length (expansion b.app b.places func item) → b.is_code i ≡ true
  pub rising : AreAscending image.marks
  pub unmarked : (func item i : ℕ) → IsAppItem b.app func item → i + 1 < length (expansion b.app b.places func item)
      → All (λ mark. mark.address ≢ item_address b.places func item + 4 * i) image.marks

-- each mark is the one at its address
abbrev pub MarksAreFound : Type 0
MarksAreFound = (image : Image) (mark : Mark) → AreAscending image.marks → Contains image.marks mark → mark_at (view_of_image image) mark.address ≡ Some mark

-- an item whose instructions have words stands in the image
abbrev pub ItemsStand : Type 0
ItemsStand = (b : Build) (image : Image) (func item : ℕ) → HasItems b image → IsAppItem b.app func item → All InRange (expansion b.app b.places func item)
    → ItemStands b (view_of_image image) func item

-- With well-formed task code each item is of one of the known kinds, if the services are.
abbrev pub ItemsAreKnown : Type 0
ItemsAreKnown = (b : Build) (view : View) (func item : ℕ) → WellFormed b.config b.app → IsAppItem b.app func item
    → ((call : Call) → operation b.app func item ≡ op.Serve call → IsKnownItem b view func item) → IsKnownItem b view func item
