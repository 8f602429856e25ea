-- The relation of the simulation, between a state of the machine that finds MIE 1 and a state of the abstract scheduler.
use Rattle.std.specs.Prelude.{ℕ, ◌<◌, ◌≤◌, ◌≡◌, ◌≢◌, ◌⊎◌, List, [], ◌∷◌, true, false, length, slice_index}
use Rattle.sloth_base.specs.Machine.{Core, State}
use Rattle.osek_scheduler.specs.declared.state.TaskState.{TaskState}
use Rattle.osek_scheduler.specs.declared.state.TaskState.TheVariants as mode
use Rattle.osek_scheduler.specs.State.{Task, System, task}
use Rattle.sloth_base.specs.Named.{declaration}
use Rattle.code_rules.specs.Code.{is_in}
use Rattle.osek_scheduler.specs.Priority.{is_active}
use Rattle.sim_induction.specs.Mirror.{priority_of}
use Rattle.sloth_base.specs.PriorityLevels.{level_of}
use Rattle.sloth_base.specs.Owners.{line_kind, owners_in}
use Rattle.sloth_base.specs.declared.numbers.LineKind.TheVariants as line_of
use Rattle.sloth_base.specs.Limits.{ceiling_count}
use Rattle.sloth_base.specs.MemoryMap.{memory_bytes, line_count}
use Rattle.sim_relation.specs.Build.{Build}
use Rattle.sim_relation.specs.Context.{RunsFirst}
use Rattle.sim_relation.specs.ServiceWords.{AreServiceWords}
use Rattle.masked_code.specs.Kernel.{HasBases}
use Rattle.sim_relation.specs.DataStands.{DataStands}
use Rattle.sim_relation.specs.ClockStands.{CountersStand, ClockStands}

-- ---- the lines

-- the pending and the enable byte of a task in this state
abbrev pub AreLineBytes : TaskState → (pending enabled : ℕ) → Type 0
AreLineBytes mode.Suspended pending enabled = (pending ≡ 0) × (enabled ≡ 1)
AreLineBytes mode.Ready pending enabled = (pending ≡ 1) × (enabled ≡ 1)
AreLineBytes mode.Active pending enabled = enabled ≡ 1
AreLineBytes (mode.Waiting mask) pending enabled = enabled ≡ 0

-- the controller's bytes say what the system is
pub record LinesStand (b : Build) (core : Core) (s : System) : Type 0 where
  pub each : (t : ℕ) → t < length b.config.tasks → AreLineBytes (task s t).state (slice_index core.pending t) (slice_index core.enabled t)
  -- whatever the state, a pending byte is 0 or 1
  pub bits : (t : ℕ) → t < length b.config.tasks → slice_index core.pending t < 2
  pub levels : (t : ℕ) → t < length b.config.tasks → slice_index core.levels t ≡ level_of b.config (declaration b.config t).priority
  pub counters : CountersStand b.config core s.clock
  -- a line that nothing owns is not enabled
  pub others : (line : ℕ) → line_kind (owners_in b.config) line ≡ line_of.Unused → slice_index core.enabled line ≡ 0

-- ---- the Active tasks

-- a task of the configuration is Active
pub record IsActiveTask (b : Build) (s : System) (t : ℕ) : Type 0 where
  pub declared : t < length b.config.tasks
  pub active : (task s t).state ≡ mode.Active

-- each has a current priority below the static one of the task above it
abbrev pub AreFalling : Build → System → List ℕ → Type 0
AreFalling b s [] = Unit {0}
AreFalling b s (t ∷ []) = IsActiveTask b s t
AreFalling b s (t ∷ u ∷ below) = IsActiveTask b s t × (priority_of b.config s u < (declaration b.config t).priority) × AreFalling b s (u ∷ below)

-- these are the Active tasks, the running one first
pub record AreActive (b : Build) (s : System) (stack : List ℕ) : Type 0 where
  pub falling : AreFalling b s stack
  pub all : (u : ℕ) → u < length b.config.tasks → (task s u).state ≡ mode.Active → is_in u stack ≡ true

-- ---- stacks

-- a task that has something on its stack
abbrev pub IsAlive : Task → Type 0
IsAlive own = (own.state ≡ mode.Active) ⊎ (own.frames ≢ [])

-- the stacks of two tasks share no byte
abbrev pub AreStacksApart : Build → (t u : ℕ) → Type 0
AreStacksApart b t u = (b.top t ≤ b.low u) ⊎ (b.top u ≤ b.low t)

-- those of two tasks with something on them are apart
abbrev pub StacksApart : Build → System → Type 0
StacksApart b s =
    (t u : ℕ) → t < length b.config.tasks → u < length b.config.tasks → t ≢ u → IsAlive (task s t) → IsAlive (task s u) → AreStacksApart b t u

-- ---- what holds of the abstract state alone

-- what holds of a task's record in every state
pub record IsTidyTask (own : Task) : Type 0 where
  pub registers : length own.registers ≡ 25
  pub at_rest : is_active own.state ≡ false → (own.held ≡ []) × (own.owed ≡ false) × (own.raised ≡ false)
  pub asleep : own.state ≡ mode.Suspended → (own.frames ≡ []) × (own.events ≡ 0)
  pub few : (r : ℕ) → is_in r own.held ≡ true → r < ceiling_count

-- what holds of the system in every state after its start
pub record IsTidySystem (b : Build) (s : System) : Type 0 where
  pub booted : s.booted ≡ true
  pub tasks : length s.tasks ≡ length b.config.tasks
  pub each : (t : ℕ) → t < length b.config.tasks → IsTidyTask (task s t)

-- ---- what no stretch changes

-- what holds of the machine at each relation of the two states
pub record IsFixed (b : Build) (core : Core) : Type 0 where
  pub open_to_lines : core.mie ≡ true
  pub previous : core.mpie ≡ true
  pub same_level : core.plevel ≡ core.ilevel
  pub bases : HasBases core.registers
  pub controller : core.controller ≡ true
  pub registers : length core.registers ≡ 32
  pub zero : slice_index core.registers 0 ≡ 0
  pub pending : length core.pending ≡ line_count
  pub enabled : length core.enabled ≡ line_count
  pub levels : length core.levels ≡ line_count
  pub ram : length core.ram ≡ memory_bytes
  pub code : (i : ℕ) → b.is_code i ≡ true → slice_index core.ram i ≡ slice_index b.memory i

-- the machine stands as the system says
pub record Stands (b : Build) (state : State) (s : System) : Type 0 where
  -- the Active tasks, the running one first
  pub stack : List ℕ
  pub active : AreActive b s stack
  pub lines : LinesStand b state.core s
  pub running : RunsFirst b state s stack
  pub words : (t : ℕ) → t < length b.config.tasks → AreServiceWords b state.core.ram t (task s t)
  pub clock : ClockStands b.config state.core.ram s.clock
  pub data_stands : DataStands b state.core.ram s.symbols
  pub apart : StacksApart b s
  pub tidy : IsTidySystem b s
  pub fixed : IsFixed b state.core
