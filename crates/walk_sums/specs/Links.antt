-- The ways between the items of a body.
use Rattle.std.specs.Prelude.{ℕ, ◌+◌, cond, List, get_or, Bool, false, Option, Some, None}
use Rattle.sloth_base.specs.declared.app.Func.{Func}
use Rattle.sloth_base.specs.declared.app.Op.{Op}
use Rattle.sloth_base.specs.declared.app.Op.TheVariants as op
use Rattle.sloth_base.specs.Named.{item_of, label_of}
use Rattle.code_rules.specs.Code.{is_followed, way}
use Rattle.walk_sums.specs.declared.graph.Ways.{Ways}
use Rattle.walk_sums.specs.Graph.{no_ways}

-- item i, where it is open
abbrev pub open_way : (open_items : List Bool) → ℕ → Option ℕ
open_way open_items i = cond (get_or open_items i false) (Some i) None

-- what is behind an item is reached from it: behind a call, where the function is among those that are passed
abbrev pub goes_past : (passed : List Bool) → Op → Bool
goes_past passed (op.Invoke g) = get_or passed g false
goes_past passed o = is_followed o

-- the way to the next item
abbrev pub next_way : Func → (passed open_items : List Bool) → ℕ → Option ℕ
next_way f passed open_items i = cond (goes_past passed (item_of f i).op) (open_way open_items (i + 1)) None

-- the way to a label
abbrev pub label_way : Func → (open_items : List Bool) → Option ℕ → Option ℕ
label_way f open_items None = None
label_way f open_items (Some k) = open_way open_items (label_of f k).item

-- the ways of item i to items that are open, if it is one from which ways go
abbrev pub item_ways : Func → (passed going open_items : List Bool) → ℕ → Ways
item_ways f passed going open_items i =
    cond (get_or going i false) (record { next = next_way f passed open_items i; jump = label_way f open_items (way (item_of f i).op) }) no_ways
