-- What a step of the running task, or a service that goes back to it, leaves.
use Rattle.std.specs.Prelude.{ℕ, ◌+◌, ◌<◌, ◌≡◌, ◌≢◌, List, [], length, slice_index, true, false}
use Rattle.sloth_base.specs.Machine.{State}
use Rattle.sloth_region.specs.Layout.{cur, below_word}
use Rattle.rv32_instr.specs.Ram.{word_at}
use Rattle.osek_scheduler.specs.declared.state.TaskState.TheVariants as mode
use Rattle.osek_scheduler.specs.State.{Task, System, task, with_task}
use Rattle.sloth_base.specs.Named.{declaration}
use Rattle.osek_scheduler.specs.Priority.{is_active, current_priority}
use Rattle.sloth_base.specs.PriorityLevels.{level_of}
use Rattle.sloth_base.specs.MemoryMap.{memory_base}
use Rattle.sim_relation.specs.Build.{Build, IsElsewhere}
use Rattle.sim_relation.specs.Position.{thread_of}
use Rattle.sim_relation.specs.Context.{IsContext}
use Rattle.sim_relation.specs.ServiceWords.{AreServiceWords}
use Rattle.sim_relation.specs.ClockStands.{ClockStands}
use Rattle.sim_relation.specs.DataStands.{DataStands}
use Rattle.sim_relation.specs.Stands.{IsAlive, AreLineBytes, IsTidyTask}
use Rattle.masked_code.specs.Kernel.{HasBases}
use Rattle.sim_relation.specs.Framing.{AreSameBytes, IsSameIdle, AreOtherWordsSame, HasLeftFor}

-- the abstract state where a task's record, the data and the tasks that arrived since the last event are these now
abbrev pub changed_system : System → ℕ → Task → List (List ℕ) → List ℕ → System
changed_system s t own symbols fresh = record (with_task s t own) { symbols = symbols; fresh = fresh }

-- the same behind an event
abbrev pub moved_system : System → ℕ → Task → List (List ℕ) → System
moved_system s t own symbols = changed_system s t own symbols []

-- what each change that keeps the relation leaves of the machine: sizes, x0, the lines' levels and the controller; interrupts are open,
-- and plevel is the level that runs
pub record WholeMachine (old now : State) : Type 0 where
  pub ram : length now.core.ram ≡ length old.core.ram
  pub registers : length now.core.registers ≡ length old.core.registers
  pub zero : slice_index now.core.registers 0 ≡ slice_index old.core.registers 0
  pub pending : length now.core.pending ≡ length old.core.pending
  pub enabled : length now.core.enabled ≡ length old.core.enabled
  pub levels : now.core.levels ≡ old.core.levels
  pub controller : now.core.controller ≡ old.core.controller
  pub open_to_lines : now.core.mie ≡ true
  pub previous : now.core.mpie ≡ true
  pub same_level : now.core.plevel ≡ now.core.ilevel
  pub bases : HasBases now.core.registers

-- what a step of the running task, and a service that goes back to it, leaves: the lines stay besides
pub record SameMachine (old now : State) : Type 0 where
  pub ram : length now.core.ram ≡ length old.core.ram
  pub registers : length now.core.registers ≡ length old.core.registers
  pub zero : slice_index now.core.registers 0 ≡ slice_index old.core.registers 0
  pub pending : now.core.pending ≡ old.core.pending
  pub enabled : now.core.enabled ≡ old.core.enabled
  pub levels : now.core.levels ≡ old.core.levels
  pub controller : now.core.controller ≡ old.core.controller
  pub open_to_lines : now.core.mie ≡ true
  pub previous : now.core.mpie ≡ true
  pub same_level : now.core.plevel ≡ now.core.ilevel
  pub bases : HasBases now.core.registers

-- the bytes of the other tasks that have something on their stacks
abbrev pub AreOthersSame : Build → List ℕ → List ℕ → System → ℕ → Type 0
AreOthersSame b old new s t = (u : ℕ) → u < length b.config.tasks → u ≢ t → IsAlive (task s u) → AreSameBytes old new (b.low u) (b.top u)

-- The running task's record is `own` now, and it stays Active. Service words and the level may change.
pub record TaskMove (b : Build) (old now : State) (s : System) (t : ℕ) (own : Task) (symbols : List (List ℕ)) : Type 0 where
  pub machine : SameMachine old now
  pub active : own.state ≡ mode.Active
  pub level : now.core.ilevel ≡ level_of b.config (current_priority b.config (declaration b.config t) own)
  pub current : word_at now.core.ram cur ≡ word_at old.core.ram cur
  pub link : word_at now.core.ram below_word ≡ word_at old.core.ram below_word
  pub idle : IsSameIdle old.core.ram now.core.ram
  pub code : (i : ℕ) → b.is_code i ≡ true → slice_index now.core.ram i ≡ slice_index old.core.ram i
  pub others : AreOthersSame b old.core.ram now.core.ram s t
  pub own_words : AreServiceWords b now.core.ram t own
  pub other_words : (u : ℕ) → u < length b.config.tasks → u ≢ t → AreServiceWords b now.core.ram u (task s u)
  pub clock : ClockStands b.config now.core.ram s.clock
  pub tidy : IsTidyTask own
  pub place : ℕ
  pub context : IsContext b now.core.ram t own (thread_of now) place
  pub data_stands : DataStands b now.core.ram symbols

-- The same, where only its own stack and the data change.
pub record TaskStep (b : Build) (old now : State) (s : System) (t : ℕ) (own : Task) (symbols : List (List ℕ)) : Type 0 where
  pub machine : SameMachine old now
  pub level : now.core.ilevel ≡ old.core.ilevel
  pub low : AreSameBytes old.core.ram now.core.ram 0 1024
  pub code : (i : ℕ) → b.is_code i ≡ true → slice_index now.core.ram i ≡ slice_index old.core.ram i
  pub others : AreOthersSame b old.core.ram now.core.ram s t
  pub active : own.state ≡ mode.Active
  pub events : own.events ≡ (task s t).events
  pub held : own.held ≡ (task s t).held
  pub raised : own.raised ≡ (task s t).raised
  pub registers : length own.registers ≡ 25
  pub place : ℕ
  pub context : IsContext b now.core.ram t own (thread_of now) place
  pub data_stands : DataStands b now.core.ram symbols

-- The running task leaves: its record is `own` now, and what the context at `place` says goes on.
pub record TaskLeave (b : Build) (old now : State) (s : System) (t : ℕ) (own : Task) (place : ℕ) : Type 0 where
  pub link : word_at old.core.ram below_word ≡ memory_base + place
  pub left : HasLeftFor old.core.ram now.core.ram place now
  pub machine : WholeMachine old now
  -- the lines
  pub own_line : AreLineBytes own.state (slice_index now.core.pending t) (slice_index now.core.enabled t)
  pub own_bit : slice_index now.core.pending t < 2
  pub other_pending : (line : ℕ) → line ≢ t → slice_index now.core.pending line ≡ slice_index old.core.pending line
  pub other_enabled : (line : ℕ) → line ≢ t → slice_index now.core.enabled line ≡ slice_index old.core.enabled line
  -- RAM
  pub idle : IsSameIdle old.core.ram now.core.ram
  pub elsewhere : (i : ℕ) → IsElsewhere b i → slice_index now.core.ram i ≡ slice_index old.core.ram i
  pub others : AreOthersSame b old.core.ram now.core.ram s t
  pub named : AreOtherWordsSame old.core.ram now.core.ram t
  pub own_words : AreServiceWords b now.core.ram t own
  -- the task
  pub at_rest : is_active own.state ≡ false
  pub tidy : IsTidyTask own
