-- What is built: the configuration, the task code, and where the image has everything.
use Rattle.std.specs.Prelude.{ℕ, ◌+◌, ◌*◌, ◌%◌, ◌<◌, ◌≤◌, ◌≡◌, ◌≢◌, ◌⊎◌, Bool, true, false, List, [], ◌∷◌, cond, length}
use Rattle.sloth_base.specs.declared.config.Config.{Config}
use Rattle.sloth_base.specs.declared.app.App.{App}
use Rattle.sloth_base.specs.declared.limits.Places.{Places}
use Rattle.sloth_base.specs.declared.app.Call.{Call}
use Rattle.sloth_base.specs.declared.app.Op.TheVariants as op
use Rattle.sloth_region.specs.Layout.{context_bytes}
use Rattle.code_rules.specs.Code.{IsCalledBy}
use Rattle.rv32_expand.specs.Expansion.{item_address, symbol_address, block_address}
use Rattle.sloth_base.specs.Named.{operation, function, symbol_size}
use Rattle.sloth_base.specs.Named.{declaration}
use Rattle.osek_scheduler.specs.Priority.{highest_priority}
use Rattle.sloth_base.specs.PriorityLevels.{level_of}
use Rattle.sloth_base.specs.Limits.{task_limit, counter_limit, alarm_limit}
use Rattle.sloth_base.specs.MemoryMap.{memory_bytes}

-- the configuration, the task code, and where all of it stands in the image
pub record Build : Type 0 where
  pub config : Config
  pub app : App
  -- the addresses of items, symbols and service blocks
  pub places : Places
  -- Offsets from 0x80000000. The part of the stacks that a task has, from its low end up to its top.
  pub low : ℕ → ℕ
  pub top : ℕ → ℕ
  -- whether the byte at an offset is one of code, and one of data
  pub is_code : ℕ → Bool
  pub is_data : ℕ → Bool
  -- the addresses of the idle loop and of the instruction that comes back from Schedule
  pub idle : ℕ
  pub back : ℕ
  -- the image's bytes
  pub memory : List ℕ
  -- no part of what is built, but a bound that a run is looked at with: so many instructions of its next item each task has passed at least while
  -- it is preempted
  pub passed : ℕ → ℕ

-- the same with another bound
abbrev pub with_passed : Build → (ℕ → ℕ) → Build
with_passed b passed = record b { passed = passed }

-- the level at which a task runs that holds nothing: that of its priority, and where its scheduling is NON the highest
abbrev pub start_level : Build → ℕ → ℕ
start_level b t = level_of b.config (cond (declaration b.config t).non (highest_priority b.config) (declaration b.config t).priority)

-- a byte of code or data
abbrev pub IsElsewhere : Build → ℕ → Type 0
IsElsewhere b i = (b.is_code i ≡ true) ⊎ (b.is_data i ≡ true)

-- ---- stacks

-- the bytes of the frames of functions that called others: each a return address and its words
abbrev pub outer_bytes : App → List ℕ → ℕ
outer_bytes app [] = 0
outer_bytes app (caller ∷ outer) = 4 + 4 * (function app caller).frame_words + outer_bytes app outer

-- the same with the frame of the function that they called
abbrev pub frame_bytes : App → (f : ℕ) → List ℕ → ℕ
frame_bytes app f outer = 4 * (function app f).frame_words + outer_bytes app outer

-- a task's part has room for the frames of each chain of calls from its body, and a context below them
abbrev pub HasRoom : Build → (t : ℕ) → Type 0
HasRoom b t = (f : ℕ) (outer : List ℕ) → IsCalledBy b.app t f outer → b.low t + context_bytes + frame_bytes b.app f outer ≤ b.top t

-- The places are apart and large enough. Of two tasks' parts of the stacks nothing is said here: those of tasks that are
-- never alive together may be the same.
pub record HasFittingPlaces (b : Build) : Type 0 where
  pub few_tasks : length b.config.tasks ≤ task_limit
  pub few_counters : length b.config.counters ≤ counter_limit
  pub few_alarms : length b.config.alarms ≤ alarm_limit
  -- code and data are apart, and stand behind the service words and outside each task's part of the stacks
  pub elsewhere : (i : ℕ) → IsElsewhere b i → 1024 ≤ i
  pub outside : (t i : ℕ) → t < length b.config.tasks → IsElsewhere b i → (i < b.low t) ⊎ (b.top t ≤ i)
  pub apart : (i : ℕ) → b.is_code i ≡ true → b.is_data i ≡ false
  -- data stand in RAM, each symbol at a multiple of 4, and no byte of one symbol at that of another
  pub data_inside : (i : ℕ) → b.is_data i ≡ true → i < memory_bytes
  pub symbols : (y : ℕ) → symbol_address b.places y % 4 ≡ 0
  pub symbols_apart : (y z i j : ℕ) → y ≢ z → i < symbol_size b.app y → j < symbol_size b.app z
      → symbol_address b.places y + i ≢ symbol_address b.places z + j
  -- instructions stand at multiples of 4
  pub items : (func index : ℕ) → item_address b.places func index % 4 ≡ 0
  pub blocks : (func index : ℕ) (call : Call) → operation b.app func index ≡ op.Serve call → block_address b.places call.service call.object % 4 ≡ 0
  pub idle_address : b.idle % 4 ≡ 0
  pub back_address : b.back % 4 ≡ 0
  -- each task's part lies behind the service words in RAM, and has room for all its calls and a context
  pub from : (t : ℕ) → t < length b.config.tasks → 1024 ≤ b.low t
  pub to : (t : ℕ) → t < length b.config.tasks → (b.top t ≤ memory_bytes) × (b.top t % 4 ≡ 0)
  pub room : (t : ℕ) → t < length b.config.tasks → HasRoom b t
