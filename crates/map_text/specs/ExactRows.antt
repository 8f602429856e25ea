-- The rows of code and data, each with the bytes of its own piece.
use Rattle.std.specs.Prelude.{ℕ, zero, suc, ◌+◌, ◌≡◌, List, [], ◌∷◌, ◌++◌, length, take, drop, sum}
use Rattle.std.specs.Prelude as prelude
use Rattle.sloth_base.specs.declared.app.App.{App}
use Rattle.sloth_base.specs.declared.app.Func.{Func}
use Rattle.sloth_base.specs.declared.config.Config.{Config}
use Rattle.sloth_base.specs.declared.limits.Bounds.{Bounds}
use Rattle.sloth_base.specs.MemoryMap.{memory_base, vectors_base, boot_base}
use Rattle.sloth_region.specs.declared.region.Map.{Map}
use Rattle.code_rules.specs.WellFormed.{WellFormed}
use Rattle.mem_map.specs.declared.all_lengths.CodeLengths.{CodeLengths}
use Rattle.mem_map.specs.Starts.{code_byte_count}
use Rattle.mem_map.specs.Plan.{code_end, idle_at, idle_bytes, items_at, prologues_at, services_at, symbol_bytes, ticks_at}
use Rattle.mem_map.specs.Planned.{IsPlanned}
use Rattle.mem_map.specs.Starts.{end_of}
use Rattle.map_text.specs.Rows.{map_rows, own_rows, shared_rows}
use Rattle.map_text.specs.declared.piece_starts.Kind.{Kind}
use Rattle.map_text.specs.declared.piece_starts.Kind.TheVariants as kind
use Rattle.map_text.specs.declared.piece_starts.Row.{Row}

-- the rows of pieces of a kind, each right behind the one before it and of so many bytes: the first at an address and with a number. One
-- without bytes has no row
abbrev pub rows_of : Kind → (number from : ℕ) → (bytes : List ℕ) → List Row
rows_of k number from [] = []
rows_of k number from (zero ∷ bytes) = rows_of k (number + 1) from bytes
rows_of k number from (suc len ∷ bytes) = record { kind = k; number = number; base = from; len = suc len } ∷ rows_of k (number + 1) (from + suc len) bytes

-- the row of a piece of which there is one
abbrev pub row_alone : Kind → (from len : ℕ) → Row
row_alone k from len = record { kind = k; number = 0; base = from; len = len }

-- the bytes of the items of each function, of these bytes of all items in order
abbrev pub function_bytes : List Func → (bytes : List ℕ) → List ℕ
function_bytes [] bytes = []
function_bytes (f ∷ funcs) bytes = sum (take (length f.items) bytes) ∷ function_bytes funcs (drop (length f.items) bytes)

-- the address behind all symbols
abbrev pub behind_symbols : App → CodeLengths → ℕ
behind_symbols app lengths = end_of (code_end lengths) (prelude.map symbol_bytes app.symbols)

-- The rows of code of these lengths and of data: boot, the idle loop, each prologue, each tick, each service that has code, and the items of each
-- function.
abbrev pub exact_rows : App → CodeLengths → List Row
exact_rows app lengths =
    row_alone kind.Words memory_base 1024 ∷ row_alone kind.Vectors vectors_base 128 ∷ row_alone kind.Boot boot_base (code_byte_count lengths.boot)
    ∷ row_alone kind.Idle (idle_at lengths) idle_bytes
    ∷ (rows_of kind.Prologue 0 (prologues_at lengths) (prelude.map code_byte_count lengths.prologues)
    ++ rows_of kind.Tick 0 (ticks_at lengths) (prelude.map code_byte_count lengths.ticks)
    ++ rows_of kind.Service 0 (services_at lengths) (prelude.map code_byte_count lengths.services)
    ++ rows_of kind.Code 0 (items_at lengths) (function_bytes app.funcs (prelude.map code_byte_count lengths.items))
    ++ rows_of kind.Data 0 (code_end lengths) (prelude.map symbol_bytes app.symbols)
    ++ row_alone kind.End (behind_symbols app lengths) 4 ∷ [])

-- in the rows of a planned map each piece of code and data has exactly its own bytes, and the stacks follow
abbrev pub RowsAreExact : Type 0
RowsAreExact = (config : Config) (app : App) (bounds : Bounds) (m : Map) → WellFormed config app → (planned : IsPlanned config app bounds m)
    → map_rows config m ≡ exact_rows app planned.lengths ++ shared_rows config m ++ own_rows config m (length config.tasks)
