-- Which line of the source each address of task code comes from.
use Rattle.std.specs.Prelude.{ℕ, ◌+◌, ◌-◌, ltb, cond, List, [], ◌∷◌, ◌++◌, length, get_or}
use Rattle.sloth_base.specs.declared.app.Func.{Func}
use Rattle.sloth_base.specs.declared.app.Item.{Item}
use Rattle.sloth_base.specs.declared.limits.Places.{Places}
use Rattle.map_text.specs.declared.line_rows.LineRow.{LineRow}

-- the address of the first instruction of an item, by its place among the items of all bodies; behind them the address behind the code
abbrev pub item_address : Places → (end number : ℕ) → ℕ
item_address places end number = get_or places.items number end

-- an address comes from a line
abbrev pub row : (address line : ℕ) → LineRow
row address line = record { address = address; line = line }

-- the rows of items, the first of which has this place: each one's first instruction comes from its line
abbrev pub item_rows : Places → (end number : ℕ) → List Item → List LineRow
item_rows places end number [] = []
item_rows places end number (item ∷ items) = row (item_address places end number) item.line ∷ item_rows places end (number + 1) items

-- The last instruction of a body's first item comes from the item's line too, if it is not its first one: a debugger that goes back does not
-- stop at a function's own address.
abbrev pub last_row : (first next line : ℕ) → List LineRow
last_row first next line = cond (ltb 4 (next - first)) (row (next - 4) line ∷ []) []

-- the rows of the items of a body
abbrev pub first_rows : Places → (end number : ℕ) → List Item → List LineRow
first_rows places end number [] = []
first_rows places end number (item ∷ items) =
    row (item_address places end number) item.line
    ∷ (last_row (item_address places end number) (item_address places end (number + 1)) item.line ++ item_rows places end (number + 1) items)

-- The rows of a body: its address comes from the line of its header, and then from that of its first item. So a debugger that breaks at its name takes the header for
-- an empty prologue, and stops at its first item.
abbrev pub body_rows : Places → (end number : ℕ) → Func → List LineRow
body_rows places end number func = row (item_address places end number) func.line ∷ first_rows places end number func.items

-- the rows of bodies, the first item of the first of which has this place
abbrev pub line_rows : Places → (end number : ℕ) → List Func → List LineRow
line_rows places end number [] = []
line_rows places end number (func ∷ funcs) = body_rows places end number func ++ line_rows places end (number + length func.items) funcs

-- the items of bodies together
abbrev pub item_count : List Func → ℕ
item_count [] = 0
item_count (func ∷ funcs) = length func.items + item_count funcs
