-- The items of task code, each as a block of its own.
use Rattle.std.specs.Prelude.{ℕ, ◌≡◌, List, [], ◌∷◌, length, map, All, Contains}
use Rattle.std.specs.List.{flat_map, range_with_len}
use Rattle.sloth_base.specs.Named.{function}
use Rattle.sloth_base.specs.declared.app.App.{App}
use Rattle.sloth_base.specs.declared.image.Mark.{Mark}
use Rattle.sloth_base.specs.declared.limits.Places.{Places}
use Rattle.rv32_instr.specs.declared.block.Block.{Block}
use Rattle.rv32_expand.specs.Expansion.{expansion, item_address}
use Rattle.rv32_expand.specs.InPlace.{IsAppItem, IsOfItem, item_mark}

-- an item is a block of its own
abbrev pub item_block : App → Places → ℕ → ℕ → Block
item_block app places func index = record {
  at = item_address places func index;
  code = expansion app places func index;
  marks = item_mark app places func index ∷ [];
}

-- the first items of a function, so many
abbrev pub first_items : App → Places → (func count : ℕ) → List Block
first_items app places func count = map (item_block app places func) (range_with_len 0 count)

-- all items of a function
abbrev pub items_of : App → Places → ℕ → List Block
items_of app places func = first_items app places func (length (function app func).items)

-- all items of the first functions, so many
abbrev pub item_blocks : App → Places → (funcs : ℕ) → List Block
item_blocks app places funcs = flat_map (items_of app places) (range_with_len 0 funcs)

-- each item is one of the blocks
abbrev pub HaveItems : App → Places → List Block → Type 0
HaveItems app places blocks = (func index : ℕ) → IsAppItem app func index → Contains blocks (item_block app places func index)

-- where a mark is one of items, it is the mark of an item of the task code
abbrev pub IsOwnMark : App → Places → Mark → Type 0
IsOwnMark app places mark = IsOfItem mark.kind (IsAppItem app mark.b mark.c × (mark ≡ item_mark app places mark.b mark.c))

-- so is each mark of a block
abbrev pub MarksAreOfItems : App → Places → Block → Type 0
MarksAreOfItems app places block = All (IsOwnMark app places) block.marks
