-- What stands in an image: its items with their marks, and its names.
use Rattle.std.specs.Prelude.{ℕ, ◌+◌, ◌*◌, ◌<◌, ◌≤◌, ◌≡◌, List, length, map, All, Contains}
use Rattle.sloth_base.specs.Named.{declaration}
use Rattle.sloth_base.specs.declared.app.App.{App}
use Rattle.sloth_base.specs.declared.config.Config.{Config}
use Rattle.sloth_base.specs.declared.image.Image.{Image}
use Rattle.sloth_base.specs.declared.image.Mark.{Mark}
use Rattle.sloth_base.specs.declared.limits.Places.{Places}
use Rattle.sloth_base.specs.MemoryMap.{memory_base}
use Rattle.rv32_expand.specs.Expansion.{expansion, item_address}
use Rattle.rv32_expand.specs.InPlace.{CodeAt, IsAppItem, IsBodyName, item_mark}
use Rattle.sloth_link.specs.Items.{IsOwnMark}

-- the items stand in a memory by the addresses of the places, each with its mark, and no other item has one
pub record HasItemsInPlace (app : App) (places : Places) (memory : List ℕ) (marks : List Mark) : Type 0 where
  pub code : (func index : ℕ) → IsAppItem app func index → CodeAt memory (item_address places func index) (expansion app places func index)
  pub inside : (func index : ℕ) → IsAppItem app func index → (memory_base ≤ item_address places func index)
      × (item_address places func index + 4 * length (expansion app places func index) ≤ memory_base + length memory)
  pub marked : (func index : ℕ) → IsAppItem app func index → Contains marks (item_mark app places func index)
  pub only : All (IsOwnMark app places) marks

-- an image has the names of the functions and of the tasks, of which each has the name of its body
pub record HasNames (image : Image) (config : Config) (app : App) : Type 0 where
  pub functions : image.funcs ≡ map (λ f. f.name) app.funcs
  pub tasks : image.tasks ≡ map (λ d. d.name) config.tasks
  pub bodies : (task : ℕ) → task < length config.tasks → IsBodyName app task (declaration config task).name
