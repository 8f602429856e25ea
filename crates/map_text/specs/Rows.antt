-- What an image takes of memory: a row for each extent.
use Rattle.std.specs.Prelude.{ℕ, zero, suc, ◌+◌, ◌-◌, Bool, not, cond, List, [], ◌∷◌, ◌++◌, length, get_or, take, drop}
use Rattle.std.specs.Prelude as prelude
use Rattle.std.specs.List.{list_any}
use Rattle.sloth_base.specs.declared.config.Config.{Config}
use Rattle.sloth_base.specs.declared.config.TaskDecl.{TaskDecl}
use Rattle.sloth_base.specs.MemoryMap.{memory_base, vectors_base, boot_base}
use Rattle.sloth_base.specs.Owners.{first_counter_line}
use Rattle.sloth_region.specs.declared.region.Extent.{Extent}
use Rattle.sloth_region.specs.declared.region.Map.{Map}
use Rattle.mem_map.specs.Stacks.{address_behind_data}
use Rattle.mem_map.specs.StackParts.{is_extended}
use Rattle.mem_map.specs.Zones.{code_zone, stack_of}
use Rattle.mem_map.specs.StackParts.{no_extent}
use Rattle.map_text.specs.declared.piece_starts.Kind.{Kind}
use Rattle.map_text.specs.declared.piece_starts.Kind.TheVariants as kind
use Rattle.map_text.specs.declared.piece_starts.Row.{Row}
use Rattle.map_text.specs.declared.piece_starts.Start.{Start}
use Rattle.map_text.specs.PieceRows.{rows_between}

-- ---- code and data: each piece goes to where the next one begins

-- where the pieces of a kind begin that have these addresses, numbered from this number on
abbrev pub numbered_starts : Kind → ℕ → List ℕ → List Start
numbered_starts k number [] = []
numbered_starts k number (at ∷ rest) = record { kind = k; number = number; at = at } ∷ numbered_starts k (number + 1) rest

-- where a piece begins of which there is one
abbrev pub single_start : Kind → ℕ → Start
single_start k at = record { kind = k; number = 0; at = at }

-- the address behind the zone of code
abbrev pub address_behind_code : Map → ℕ
address_behind_code m = (code_zone m).base + (code_zone m).len

-- where the code of each function begins: at its first item
abbrev pub code_places : Map → List ℕ
code_places m = prelude.map (λ first. get_or m.places.items first (address_behind_code m)) m.places.first

-- where the prologue of each task begins
abbrev pub prologues_of : Config → Map → List ℕ
prologues_of config m = take (length config.tasks) m.handlers

-- where the tick of each counter begins
abbrev pub ticks_of : Config → Map → List ℕ
ticks_of config m = take (length config.counters) (drop first_counter_line m.handlers)

-- where each piece begins, in the order of the addresses
unfoldable pub starts_of : Config → Map → List Start
starts_of config m =
    single_start kind.Words memory_base ∷ single_start kind.Vectors vectors_base ∷ single_start kind.Boot boot_base ∷ single_start kind.Idle m.idle
    ∷ (numbered_starts kind.Prologue 0 (prologues_of config m) ++ numbered_starts kind.Tick 0 (ticks_of config m)
    ++ numbered_starts kind.Service 0 m.places.blocks ++ numbered_starts kind.Code 0 (code_places m) ++ numbered_starts kind.Data 0 m.places.symbols
    ++ single_start kind.End (address_behind_data m - 4) ∷ [])

-- the parts of that: pieces whose addresses are the same in each image, and the idle loop; routines; functions, which begin here, and symbols
abbrev pub first_starts : Map → List Start
first_starts m =
    single_start kind.Words memory_base ∷ single_start kind.Vectors vectors_base ∷ single_start kind.Boot boot_base ∷ single_start kind.Idle m.idle ∷ []

abbrev pub routine_starts : Config → Map → List Start
routine_starts config m =
    numbered_starts kind.Prologue 0 (prologues_of config m) ++ numbered_starts kind.Tick 0 (ticks_of config m) ++ numbered_starts kind.Service 0 m.places.blocks

abbrev pub last_starts : List ℕ → Map → List Start
last_starts code m =
    numbered_starts kind.Code 0 code ++ numbered_starts kind.Data 0 m.places.symbols ++ single_start kind.End (address_behind_data m - 4) ∷ []

-- ---- stacks

-- the row of an extent
abbrev pub extent_row : Kind → ℕ → Extent → Row
extent_row k number e = record { kind = k; number = number; base = e.base; len = e.len }

-- some task has no events
abbrev pub has_basic : List TaskDecl → Bool
has_basic tasks = list_any (λ (t : TaskDecl). not t.extended) tasks

-- the row of the stack that all basic tasks share, if there are any: the first extent behind the zone of data
abbrev pub shared_rows : Config → Map → List Row
shared_rows config m = cond (has_basic config.tasks) (extent_row kind.Shared 0 (get_or m.extents 3 no_extent) ∷ []) []

-- the rows of the stacks of the first tasks, so many of them, that have one of their own
unfoldable pub own_rows : Config → Map → ℕ → List Row
own_rows config m zero = []
own_rows config m (suc t) = own_rows config m t ++ cond (is_extended config.tasks t) (extent_row kind.Stack t (stack_of m t) ∷ []) []

-- ---- all of it

-- the rows of an image
abbrev pub map_rows : Config → Map → List Row
map_rows config m = rows_between (starts_of config m) (address_behind_data m) ++ shared_rows config m ++ own_rows config m (length config.tasks)

-- the bytes of rows together
abbrev pub rows_sum : List Row → ℕ
rows_sum [] = 0
rows_sum (row ∷ rows) = row.len + rows_sum rows
