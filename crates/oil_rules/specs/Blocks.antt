-- The blocks of an object's attributes: an attribute of its own block, and those in the block behind its value.
use Rattle.std.specs.Prelude.{ℕ, Bool, not, ◌==◌, if◌then◌else◌, List, [], ◌∷◌, codes, find, Option}
use Rattle.std.specs.List.{list_any, take_while}
use Rattle.oil_parse.specs.declared.tree.OilAttr.{OilAttr}
use Rattle.oil_parse.specs.declared.tree.OilObject.{OilObject}
use Rattle.oil_table.specs.Objects.{is_use, is_use_at, number_given}
use Rattle.oil_table.specs.ListedEvents.{task_of}

-- an attribute of a block behind another attribute's value
abbrev pub is_inner : OilAttr → Bool
is_inner attr = not (attr.depth == 0)

-- an attribute of an object's own block, and those in the block behind its value
pub record BlockText : Type 0 where
  pub head : OilAttr
  pub inner : List OilAttr

-- the blocks of an object, in the order of the text
abbrev pub blocks_of : List OilAttr → List BlockText
blocks_of [] = []
blocks_of (attr ∷ attrs) = if is_inner attr then blocks_of attrs else record { head = attr; inner = take_while is_inner attrs } ∷ blocks_of attrs

-- the block behind the first use of an attribute; empty where it is not used
abbrev pub first_block : List ℕ → List OilAttr → List OilAttr
first_block name [] = []
first_block name (attr ∷ attrs) = if is_use name attr then take_while is_inner attrs else first_block name attrs

-- a use of an attribute in a block itself, not in one inside it
abbrev pub is_inner_use : List ℕ → OilAttr → Bool
is_inner_use name attr = is_use_at 1 name attr

-- the attribute is used in a block
abbrev pub is_used_in : List OilAttr → List ℕ → Bool
is_used_in inner name = list_any (is_inner_use name) inner

-- the first use in a block
abbrev pub first_in : List OilAttr → List ℕ → Option OilAttr
first_in inner name = find (is_inner_use name) inner

-- the number of the first use in a block
abbrev pub number_in : List OilAttr → List ℕ → Option ℕ
number_in inner name = number_given (first_in inner name)

-- a block of an alarm among all objects
pub record ActionBlock : Type 0 where
  pub objects : List OilObject
  pub inner : List OilAttr

-- the number of the task that the first TASK of a block names
abbrev pub task_in : List OilObject → List OilAttr → Option ℕ
task_in objects inner = task_of objects (first_in inner (codes "TASK"))
