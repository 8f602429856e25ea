-- The contexts of tasks, and their chain from the running task down to the idle loop.
use Rattle.std.specs.Prelude.{ℕ, ◌+◌, ◌*◌, ◌%◌, ◌<◌, ◌≤◌, ◌≡◌, List, [], ◌∷◌, Bool, true, false, length, slice_index}
use Rattle.sloth_base.specs.Machine.{State}
use Rattle.sloth_region.specs.Layout.{cur, below_word, resume, idle_context, context_bytes}
use Rattle.rv32_instr.specs.Ram.{word_at}
use Rattle.rv32_expand.specs.Expansion.{item_address}
use Rattle.osek_scheduler.specs.State.{Frame, Task, System, task}
use Rattle.sloth_base.specs.Named.{function}
use Rattle.sim_induction.specs.Mirror.{priority_of}
use Rattle.sloth_base.specs.PriorityLevels.{level_of}
use Rattle.sloth_base.specs.MemoryMap.{memory_base}
use Rattle.sim_relation.specs.Build.{Build}
use Rattle.sim_relation.specs.Position.{Thread, thread_of, thread_at, AreFrames, IsPosition}
use Rattle.sim_relation.specs.Progress.{passed_count_of}

-- A task's registers, position and frames, with x2 at the offset `place`. All that this says of RAM lies from there up to the
-- task's top.
pub record IsContext (b : Build) (ram : List ℕ) (t : ℕ) (own : Task) (th : Thread) (place : ℕ) : Type 0 where
  pub x2 : th.x2 ≡ memory_base + place
  pub registers : (i : ℕ) → i < 25 → slice_index own.registers i ≡ th.x (i + 5)
  pub position : IsPosition b ram t own th place
  -- there is room for a context below
  pub room : b.low t + context_bytes ≤ place
  pub aligned : place % 4 ≡ 0

-- ---- the Active tasks below the running one

-- an Active task's context, at an offset
pub record IsSaved (b : Build) (ram : List ℕ) (s : System) (t place : ℕ) : Type 0 where
  pub level : word_at ram (place + 4) ≡ level_of b.config (priority_of b.config s t)
  pub current : word_at ram (place + 8) ≡ t + 1
  pub context : IsContext b ram t (task s t) (thread_at ram place) (place + context_bytes)
  -- it has passed at least what is said of it
  pub passed : b.passed t ≤ passed_count_of b.app b.places (word_at ram place) (task s t)

-- the idle loop's context
pub record IsIdleSaved (b : Build) (ram : List ℕ) (place : ℕ) : Type 0 where
  pub is : place ≡ idle_context
  pub pc : word_at ram idle_context ≡ b.idle
  pub level : word_at ram (idle_context + 4) ≡ 0
  pub current : word_at ram (idle_context + 8) ≡ 0

-- the first of these tasks has its context at an offset, and each context has the address of the next
abbrev pub IsContextChain : Build → List ℕ → System → List ℕ → ℕ → Type 0
IsContextChain b ram s [] place = IsIdleSaved b ram place
IsContextChain b ram s (t ∷ below) place =
    IsSaved b ram s t place × ((next : ℕ) × (word_at ram (place + 12) ≡ memory_base + next) × IsContextChain b ram s below next)

-- ---- what runs

-- the machine runs a task, below which these are Active
pub record RunsTask (b : Build) (state : State) (s : System) (t : ℕ) (below : List ℕ) : Type 0 where
  pub level : state.core.ilevel ≡ level_of b.config (priority_of b.config s t)
  pub current : word_at state.core.ram cur ≡ t + 1
  pub place : ℕ
  pub context : IsContext b state.core.ram t (task s t) (thread_of state) place
  pub next : ℕ
  pub link : word_at state.core.ram below_word ≡ memory_base + next
  pub chain : IsContextChain b state.core.ram s below next

-- the machine runs the idle loop
pub record RunsIdle (b : Build) (state : State) : Type 0 where
  pub level : state.core.ilevel ≡ 0
  pub current : word_at state.core.ram cur ≡ 0
  pub pc : state.pc ≡ b.idle
  pub x2 : slice_index state.core.registers 2 ≡ memory_base + (idle_context + context_bytes)

-- the first of the Active tasks runs, above the others
abbrev pub RunsFirst : Build → State → System → List ℕ → Type 0
RunsFirst b state s [] = RunsIdle b state
RunsFirst b state s (t ∷ below) = RunsTask b state s t below

-- ---- a task that is to go on from a wait

-- its context, at an offset, is at the first instruction of its next item
pub record IsRested (b : Build) (ram : List ℕ) (t : ℕ) (own : Task) (frame : Frame) (outer : List Frame) (place : ℕ) : Type 0 where
  pub link : word_at ram (resume t) ≡ memory_base + place
  pub inside : frame.item < length (function b.app frame.func).items
  pub pc : word_at ram place ≡ item_address b.places frame.func frame.item
  pub registers : (i : ℕ) → i < 25 → slice_index own.registers i ≡ word_at ram (place + 4 * (i + 5))
  pub frames : AreFrames b ram frame outer (place + context_bytes) (b.top t)
  pub room : b.low t ≤ place
  pub aligned : place % 4 ≡ 0

-- by whether the task is Active, and its frames; any other task has no such context
abbrev pub HasOwnContext : Build → List ℕ → ℕ → Task → Bool → List Frame → Type 0
HasOwnContext b ram t own true frames = word_at ram (resume t) ≡ 0
HasOwnContext b ram t own false [] = word_at ram (resume t) ≡ 0
HasOwnContext b ram t own false (frame ∷ outer) = (place : ℕ) × IsRested b ram t own frame outer place
