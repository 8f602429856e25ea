-- The symbols of a file for debuggers: the kernel's words and pieces, and what the task code declares.
use Rattle.std.specs.Prelude.{ℕ, ◌+◌, Bool, cond, List, [], ◌∷◌, ◌++◌, codes, length, get_or}
use Rattle.std.specs.List.{flat_map}
use Rattle.sloth_base.specs.Blocks.{block_object, block_service}
use Rattle.sloth_base.specs.ConfigRange.{scheduler_number}
use Rattle.sloth_base.specs.MemoryMap.{memory_base}
use Rattle.sloth_base.specs.Named.{counter_declaration, declaration, function, no_symbol}
use Rattle.sloth_base.specs.declared.app.App.{App}
use Rattle.sloth_base.specs.declared.config.AlarmDecl.{AlarmDecl}
use Rattle.sloth_base.specs.declared.config.Config.{Config}
use Rattle.sloth_base.specs.declared.config.CounterDecl.{CounterDecl}
use Rattle.sloth_base.specs.declared.config.TaskDecl.{TaskDecl}
use Rattle.sloth_region.specs.Layout.{active, alarm_cycle, alarm_left, below_word, context_bytes, counter_value, cur, events, idle_context, resume, saved_level, wait}
use Rattle.map_text.specs.PieceNames.{block_symbol, joined}
use Rattle.map_text.specs.declared.piece_starts.Kind.{Kind}
use Rattle.map_text.specs.declared.piece_starts.Kind.TheVariants as kind
use Rattle.map_text.specs.declared.piece_starts.Row.{Row}
use Rattle.symbol_image.specs.declared.symbol.Binding.TheVariants as binding
use Rattle.symbol_image.specs.declared.symbol.Symbol.{Symbol}
use Rattle.symbol_image.specs.declared.symbol.SymbolKind.{SymbolKind}
use Rattle.symbol_image.specs.declared.symbol.SymbolKind.TheVariants as symbol

-- ---- the kernel's words

-- a local object of so many bytes at an offset
abbrev pub kernel_object : (name : List ℕ) → (offset size : ℕ) → Symbol
kernel_object name offset size =
    record { name = name; address = memory_base + offset; size = size; kind = symbol.Object; binding = binding.Local }

-- a word
abbrev pub word_symbol : (name : List ℕ) → (offset : ℕ) → Symbol
word_symbol name offset = kernel_object name offset 4

-- the state of tasks, the first of which has this number
abbrev pub state_words : (task : ℕ) → List TaskDecl → List Symbol
state_words t [] = []
state_words t (d ∷ tasks) =
    word_symbol (joined (codes "active") d.name) (active t) ∷ word_symbol (joined (codes "events") d.name) (events t)
    ∷ word_symbol (joined (codes "wait") d.name) (wait t) ∷ state_words (t + 1) tasks

-- the values of counters
abbrev pub counter_words : (counter : ℕ) → List CounterDecl → List Symbol
counter_words c [] = []
counter_words c (d ∷ counters) = word_symbol (joined (codes "value") d.name) (counter_value c) ∷ counter_words (c + 1) counters

-- the ticks that alarms have left, and their cycles
abbrev pub alarm_words : (alarm : ℕ) → List AlarmDecl → List Symbol
alarm_words a [] = []
alarm_words a (d ∷ alarms) =
    word_symbol (joined (codes "left") d.name) (alarm_left a) ∷ word_symbol (joined (codes "cycle") d.name) (alarm_cycle a) ∷ alarm_words (a + 1) alarms

-- where the tasks' own contexts stand
abbrev pub resume_words : (task : ℕ) → List TaskDecl → List Symbol
resume_words t [] = []
resume_words t (d ∷ tasks) = word_symbol (joined (codes "resume") d.name) (resume t) ∷ resume_words (t + 1) tasks

-- the levels at which resources were taken
abbrev pub saved_words : (resource : ℕ) → List (List ℕ) → List Symbol
saved_words r [] = []
saved_words r (name ∷ resources) = word_symbol (joined (codes "saved") name) (saved_level r) ∷ saved_words (r + 1) resources

-- and that of RES_SCHEDULER, if it exists
abbrev pub scheduler_word : Symbol
scheduler_word = word_symbol (joined (codes "saved") (codes "RES_SCHEDULER")) (saved_level scheduler_number)

abbrev pub scheduler_words : Bool → List Symbol
scheduler_words exists = cond exists (scheduler_word ∷ []) []

-- the context of the idle loop
abbrev pub context_symbol : Symbol
context_symbol = kernel_object (codes "kernel$idle_context") idle_context context_bytes

-- the words that say what runs, those of the states of tasks, and those of the clock
abbrev pub state_and_clock_symbols : Config → List Symbol
state_and_clock_symbols config =
    word_symbol (codes "kernel$cur") cur ∷ (state_words 0 config.tasks ++ (counter_words 0 config.counters ++ alarm_words 0 config.alarms))

-- those of what was preempted, of contexts and of levels, and the context of the idle loop
abbrev pub context_and_level_symbols : Config → List Symbol
context_and_level_symbols config =
    word_symbol (codes "kernel$below") below_word
    ∷ (resume_words 0 config.tasks ++ (saved_words 0 config.resources ++ (scheduler_words config.res_scheduler ++ context_symbol ∷ [])))

-- all service words, by their uses, and the context of the idle loop
unfoldable pub word_symbols : Config → List Symbol
word_symbols config = state_and_clock_symbols config ++ context_and_level_symbols config

-- ---- pieces

-- the local symbol of a row's bytes
abbrev pub local_at : (name : List ℕ) → SymbolKind → Row → List Symbol
local_at name what row = record { name = name; address = row.base; size = row.len; kind = what; binding = binding.Local } ∷ []

-- of a kernel's piece, by what stands there
abbrev pub local_of : Config → Kind → Row → List Symbol
local_of config kind.Words row = []
local_of config kind.Vectors row = local_at (codes "kernel$vectors") symbol.Function row
local_of config kind.Boot row = local_at (codes "kernel$boot") symbol.Function row
local_of config kind.Idle row = local_at (codes "kernel$idle") symbol.Function row
local_of config kind.Prologue row = local_at (joined (codes "prologue") (declaration config row.number).name) symbol.Function row
local_of config kind.Tick row = local_at (joined (codes "tick") (counter_declaration config row.number).name) symbol.Function row
local_of config kind.Service row = local_at (block_symbol config (block_service row.number) (block_object row.number)) symbol.Function row
local_of config kind.Code row = []
local_of config kind.Data row = []
local_of config kind.End row = []
local_of config kind.Shared row = local_at (codes "kernel$stack") symbol.Object row
local_of config kind.Stack row = local_at (joined (codes "stack") (declaration config row.number).name) symbol.Object row
local_of config kind.Between row = []

-- of a row
abbrev pub local_symbols : Config → Row → List Symbol
local_symbols config row = local_of config row.kind row

-- a global symbol of so many of a row's bytes
abbrev pub global_at : (name : List ℕ) → SymbolKind → (size : ℕ) → Row → List Symbol
global_at name what size row = record { name = name; address = row.base; size = size; kind = what; binding = binding.Global } ∷ []

-- of bodies, and of symbols with the size that is declared
abbrev pub global_of : App → Kind → Row → List Symbol
global_of app kind.Words row = []
global_of app kind.Vectors row = []
global_of app kind.Boot row = []
global_of app kind.Idle row = []
global_of app kind.Prologue row = []
global_of app kind.Tick row = []
global_of app kind.Service row = []
global_of app kind.Code row = global_at (function app row.number).name symbol.Function row.len row
global_of app kind.Data row =
    global_at (get_or app.symbols row.number no_symbol).name symbol.Object (length (get_or app.symbols row.number no_symbol).bytes) row
global_of app kind.End row = []
global_of app kind.Shared row = []
global_of app kind.Stack row = []
global_of app kind.Between row = []

-- of a row
abbrev pub global_symbols : App → Row → List Symbol
global_symbols app row = global_of app row.kind row

-- ---- all symbols

-- the local ones: the kernel's words, and its pieces in the order of their addresses
abbrev pub locals_of : Config → List Row → List Symbol
locals_of config rows = word_symbols config ++ flat_map (local_symbols config) rows

-- and behind them what the task code declares, in the order of the addresses
abbrev pub all_symbols : Config → App → List Row → List Symbol
all_symbols config app rows = locals_of config rows ++ flat_map (global_symbols app) rows
