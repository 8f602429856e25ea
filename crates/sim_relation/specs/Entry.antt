-- What the entry of a task leaves, anew or behind a wait.
use Rattle.std.specs.Prelude.{ℕ, ◌+◌, ◌*◌, ◌%◌, ◌<◌, ◌≤◌, ◌≡◌, ◌≢◌, ◌⊎◌, List, length, slice_index, slice_set, true}
use Rattle.sloth_base.specs.Machine.{State}
use Rattle.sloth_base.specs.MemoryMap.{memory_base, memory_bytes}
use Rattle.sloth_region.specs.Layout.{cur, below_word, active, resume, idle_context, context_bytes}
use Rattle.rv32_instr.specs.Ram.{word_at}
use Rattle.osek_scheduler.specs.declared.state.TaskState.TheVariants as mode
use Rattle.osek_scheduler.specs.State.{Task, System, task}
use Rattle.sloth_base.specs.Named.{declaration}
use Rattle.sim_relation.specs.Build.{Build, start_level}
use Rattle.sim_relation.specs.Position.{thread_of}
use Rattle.sim_relation.specs.Context.{IsContext}
use Rattle.masked_code.specs.Kernel.{HasBases}
use Rattle.sim_relation.specs.Stands.{IsAlive, AreStacksApart}

-- The RAM: the context of what was preempted, at `place`, the words of the entry, and the task's own stack as it likes; all
-- else stays. `old` is the state before the line was taken.
pub record EntryRam (b : Build) (old : State) (new : List ℕ) (t place : ℕ) : Type 0 where
  pub long : length new ≡ memory_bytes
  pub outside : (i : ℕ) → idle_context ≤ i → (i < place) ⊎ (place + context_bytes ≤ i) → (i < b.low t) ⊎ (b.top t ≤ i)
      → slice_index new i ≡ slice_index old.core.ram i
  pub pc_word : word_at new place ≡ old.pc
  pub level_word : word_at new (place + 4) ≡ old.core.ilevel
  pub current_word : word_at new (place + 8) ≡ word_at old.core.ram cur
  pub link_word : word_at new (place + 12) ≡ word_at old.core.ram below_word
  -- of the idle loop nothing is said of the registers
  pub register_words : word_at old.core.ram cur ≢ 0 → (i : ℕ) → 5 ≤ i → i < 32 → word_at new (place + 4 * i) ≡ slice_index old.core.registers i
  pub named : (p : ℕ) → p + 4 ≤ idle_context → p % 4 ≡ 0 → p ≢ cur → p ≢ below_word → p ≢ active t → p ≢ resume t → word_at new p ≡ word_at old.core.ram p
  pub current : word_at new cur ≡ t + 1
  pub link : word_at new below_word ≡ memory_base + place
  pub activity : word_at new (active t) ≡ 1
  pub resumption : word_at new (resume t) ≡ 0

-- the machine beside it
pub record EntryMachine (b : Build) (old now : State) (t : ℕ) : Type 0 where
  pub registers : length now.core.registers ≡ length old.core.registers
  pub zero : slice_index now.core.registers 0 ≡ slice_index old.core.registers 0
  pub level : now.core.ilevel ≡ start_level b t
  pub pending : now.core.pending ≡ slice_set old.core.pending t 0
  pub enabled : now.core.enabled ≡ old.core.enabled
  pub levels : now.core.levels ≡ old.core.levels
  pub controller : now.core.controller ≡ old.core.controller
  pub open_to_lines : now.core.mie ≡ true
  pub previous : now.core.mpie ≡ true
  pub same_level : now.core.plevel ≡ now.core.ilevel
  pub bases : HasBases now.core.registers

-- the task's record is `own` now
pub record TaskEntry (b : Build) (old now : State) (s : System) (t : ℕ) (own : Task) (place : ℕ) : Type 0 where
  pub ram : EntryRam b old now.core.ram t place
  pub machine : EntryMachine b old now t
  pub state : own.state ≡ mode.Active
  pub events : own.events ≡ (task s t).events
  pub held : own.held ≡ (task s t).held
  pub raised : own.raised ≡ (declaration b.config t).non
  pub registers : length own.registers ≡ 25
  pub x2 : slice_index old.core.registers 2 ≡ memory_base + (place + context_bytes)
  -- its part of the stacks is apart from those of the tasks that have something there
  pub apart : (u : ℕ) → u < length b.config.tasks → u ≢ t → IsAlive (task s u) → AreStacksApart b t u
  pub frame : ℕ
  pub context : IsContext b now.core.ram t own (thread_of now) frame
