-- The section of frames, `.debug_frame`: how what runs is left, for each piece of code (DWARF 4, 6.4).
use Rattle.std.specs.Prelude.{ℕ, zero, suc, ◌+◌, ◌-◌, ◌*◌, ◌/◌, ◌%◌, ◌==◌, ◌&&◌, ◌||◌, Bool, true, false, not, ltb, cond, List, [], ◌∷◌, ◌++◌, get_or, length, take, Option, Some, None}
use Rattle.std.specs.List.{flat_map}
use Rattle.sloth_base.specs.MemoryMap.{memory_base}
use Rattle.sloth_base.specs.Named.{function}
use Rattle.sloth_base.specs.declared.app.App.{App}
use Rattle.sloth_base.specs.declared.limits.Places.{Places}
use Rattle.symbol_image.specs.BodyFrames.{body_rules}
use Rattle.symbol_image.specs.FrameEntries.{common_entry, frame_entry, is_unknown}
use Rattle.symbol_image.specs.Fields.{unsigned_leb}
use Rattle.map_text.specs.LineRows.{item_count}
use Rattle.map_text.specs.declared.piece_starts.Kind.{Kind}
use Rattle.map_text.specs.declared.piece_starts.Kind.TheVariants as kind
use Rattle.map_text.specs.declared.piece_starts.Row.{Row}
use Rattle.symbol_image.specs.declared.frames.Lost.{Lost}
use Rattle.symbol_image.specs.declared.frames.Lost.TheVariants as lost

-- ---- what code goes back by

-- the column of mepc: 4096 and the number of the CSR (RISC-V DWARF, "Dwarf register numbers")
abbrev pub mepc_column : ℕ
mepc_column = 4929

-- items go back by x1, which is unknown but where more is said; services by x31; what interrupts by mepc
abbrev pub common_entries : List ℕ
common_entries = common_entry 1 true ++ (common_entry 31 false ++ common_entry mepc_column false)

-- where these entries stand, of 20, 16 and 20 bytes
abbrev pub items_at : ℕ
items_at = 0

abbrev pub services_at : ℕ
services_at = 20

abbrev pub taken_at : ℕ
taken_at = 36

-- ---- instructions that lose it (RISC-V unprivileged manual, "Base Instruction Formats")

-- the number of four bytes, low byte first
abbrev pub memory_word : (memory : List ℕ) → (at : ℕ) → ℕ
memory_word memory at =
    get_or memory at 0 + 256 * get_or memory (at + 1) 0 + 65536 * get_or memory (at + 2) 0 + 16777216 * get_or memory (at + 3) 0

-- it has a register of its result: it is no store, no branch and no fence
abbrev pub has_result : (word : ℕ) → Bool
has_result word = not (word % 128 == 35 || word % 128 == 99 || word % 128 == 15)

-- that register is this one
abbrev pub writes : (register word : ℕ) → Bool
writes register word = has_result word && word / 128 % 32 == register

-- it is a csrrw of this CSR
abbrev pub writes_csr : (csr word : ℕ) → Bool
writes_csr csr word = word % 128 == 115 && word / 4096 % 8 == 1 && word / 1048576 == csr

-- behind an instruction that writes x2 or x31 a service's way back is not known; behind one that writes x1 or mepc (0x341) a prologue's
abbrev pub loses : Lost → (word : ℕ) → Bool
loses lost.ByService word = writes 2 word || writes 31 word
loses lost.ByPrologue word = writes 1 word || writes_csr 833 word

-- the first instruction that does, from one on, of so many that are left
abbrev pub first_loss : Lost → (memory : List ℕ) → (base from left : ℕ) → Option ℕ
first_loss what memory base from zero = None
first_loss what memory base from (suc left) =
    cond (loses what (memory_word memory (base + 4 * from))) (Some from) (first_loss what memory base (from + 1) left)

-- the rule that a column is unknown behind an instruction, where the rules were told last at another: unless the piece of so many instructions ends there
abbrev pub loss_rule : (column told count : ℕ) → Option ℕ → List ℕ
loss_rule column told count None = []
loss_rule column told count (Some at) = cond (ltb (at + 1) count) (2 ∷ (at + 1 - told) % 256 ∷ is_unknown column) []

-- ---- pieces

-- a service is as at its opening up to the first loss
abbrev pub service_rules : (memory : List ℕ) → (base len : ℕ) → List ℕ
service_rules memory base len = loss_rule 31 0 (len / 4) (first_loss lost.ByService memory (base - memory_base) 0 (len / 4))

-- The first instruction of a prologue gives x1 the address of a context, 128 bytes below what is interrupted (DW_CFA_def_cfa).
abbrev pub prologue_rules : (memory : List ℕ) → (base len : ℕ) → List ℕ
prologue_rules memory base len =
    2 ∷ 1 ∷ 12 ∷ 1 ∷ (unsigned_leb 128
    ++ loss_rule mepc_column 1 (len / 4) (first_loss lost.ByPrologue memory (base - memory_base) 1 (len / 4 - 1)))

-- the entry of a row's bytes
abbrev pub entry_of : (common : ℕ) → (rules : List ℕ) → Row → List ℕ
entry_of common rules row = frame_entry common row.base row.len rules

-- that of a body, by its number among all bodies
abbrev pub body_entry : App → Places → (code_end : ℕ) → Row → List ℕ
body_entry app places code_end row =
    entry_of items_at (body_rules app places code_end (item_count (take row.number app.funcs)) (function app row.number)) row

-- that of a piece, by what it is
abbrev pub piece_entry : App → Places → (code_end : ℕ) → (memory : List ℕ) → Kind → Row → List ℕ
piece_entry app places code_end memory kind.Words row = []
piece_entry app places code_end memory kind.Vectors row = entry_of taken_at [] row
piece_entry app places code_end memory kind.Boot row = entry_of items_at [] row
piece_entry app places code_end memory kind.Idle row = entry_of items_at [] row
piece_entry app places code_end memory kind.Prologue row = entry_of taken_at (prologue_rules memory row.base row.len) row
piece_entry app places code_end memory kind.Tick row = entry_of taken_at [] row
piece_entry app places code_end memory kind.Service row = entry_of services_at (service_rules memory row.base row.len) row
piece_entry app places code_end memory kind.Code row = cond (ltb row.number (length app.funcs)) (body_entry app places code_end row) []
piece_entry app places code_end memory kind.Data row = []
piece_entry app places code_end memory kind.End row = []
piece_entry app places code_end memory kind.Shared row = []
piece_entry app places code_end memory kind.Stack row = []
piece_entry app places code_end memory kind.Between row = []

-- that of a row
abbrev pub row_entry : App → Places → (code_end : ℕ) → (memory : List ℕ) → Row → List ℕ
row_entry app places code_end memory row = piece_entry app places code_end memory row.kind row

-- the section: what entries have in common, and an entry for each piece of code
unfoldable pub frame_section : App → Places → (code_end : ℕ) → (memory : List ℕ) → List Row → List ℕ
frame_section app places code_end memory rows = common_entries ++ flat_map (row_entry app places code_end memory) rows
