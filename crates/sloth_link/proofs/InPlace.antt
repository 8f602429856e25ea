-- In what is linked the items stand, and are in place.
use Rattle.std.proofs.Common.{◌≡◌, ℕ, List, length}
use Rattle.std.specs.Prelude.{All}
use Rattle.std.specs.List.Sorted.{IsPermutation}
use Rattle.std.proofs.lemmas.List.Elements.{All-append, Contains-append_right}
use Rattle.sloth_base.specs.declared.app.App.{App}
use Rattle.sloth_base.specs.declared.config.Config.{Config}
use Rattle.sloth_base.specs.declared.image.Image.{Image}
use Rattle.sloth_base.specs.declared.image.Mark.{Mark}
use Rattle.sloth_region.specs.declared.region.Map.{Map}
use Rattle.rv32_instr.specs.declared.block.Block.{Block}
use Rattle.rv32_expand.specs.InPlace.{ItemsInPlace}
use Rattle.sloth_link.specs.Image.{MayLink, all_blocks, all_data, symbol_data, memory_size}
use Rattle.sloth_link.specs.Items.{MarksAreOfItems, item_block, item_blocks}
use Rattle.sloth_link.specs.Linked.{AreLinked, BlockStands, sections_of}
use Rattle.mem_map.specs.Sections.{marks_of}
use Rattle.sloth_base.specs.DeclaredNames.{task_names, function_names}
use Rattle.sloth_link.specs.Standing.{HasItemsInPlace}
use Rattle.sloth_link.proofs.ItemBlocks.{item_among, items_own}
use Rattle.sloth_link.proofs.Placing.{items_are_placed}
use Rattle.sloth_link.proofs.Standing.{items_stand}
use Rattle.sloth_link.proofs.WrittenMemory.{blocks_inside}

module _ (config : Config) (app : App) (map : Map) (blocks : List Block) (may : MayLink config app map blocks) where
  abbrev own : List Block
  own = item_blocks app map.places (length app.funcs)

  -- each item's code stands at its address, and its mark is there
  pub stand : (memory : List ℕ) (marks : List Mark) → AreLinked (memory_size map) (sections_of (all_blocks app map blocks) (all_data config app map)) memory
      → All (BlockStands memory) (all_blocks app map blocks) → IsPermutation (marks_of (all_blocks app map blocks)) marks → HasItemsInPlace app map.places memory marks
  stand memory marks linked code moved =
      items_stand app map.places (memory_size map) (all_blocks app map blocks) memory marks
      (λ func index is. Contains-append_right blocks own (item_block app map.places func index) (item_among app map.places func index is))
      (All-append (MarksAreOfItems app map.places) blocks own may.routines (items_own app map.places))
      may.room.blocks_above (blocks_inside (memory_size map) (all_blocks app map blocks) (symbol_data app map) may.room) linked.size_is code moved

  -- an image with these marks and names has its items in place
  pub in_place : (image : Image) → HasItemsInPlace app map.places image.memory image.marks → image.tasks ≡ task_names config → image.funcs ≡ function_names app
      → ItemsInPlace image config app
  in_place image stands tasks functions =
      items_are_placed image config app map.places may.well_formed may.agree stands (record { functions = functions; tasks = tasks; bodies = may.named })
