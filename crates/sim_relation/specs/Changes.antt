-- What changes a task's events, its state and its line, while it or another task runs.
use Rattle.std.specs.Prelude.{ℕ, ◌+◌, ◌%◌, ◌<◌, ◌≤◌, ◌≡◌, ◌≢◌, slice_index}
use Rattle.sloth_base.specs.Machine.{State}
use Rattle.sloth_region.specs.Layout.{events, wait, idle_context}
use Rattle.rv32_instr.specs.Ram.{word_at}
use Rattle.osek_scheduler.specs.declared.state.TaskState.{TaskState}
use Rattle.osek_scheduler.specs.declared.state.TaskState.TheVariants as mode
use Rattle.osek_scheduler.specs.State.{Task, System, task}
use Rattle.osek_scheduler.specs.Priority.{is_active}
use Rattle.sim_relation.specs.Build.{Build}
use Rattle.sim_relation.specs.Moves.{moved_system, WholeMachine}
use Rattle.sim_relation.specs.ServiceWords.{IsWaitWord}
use Rattle.sim_relation.specs.Stands.{AreLineBytes}

-- a task's record with this state and these events
abbrev pub changed_task : System → ℕ → TaskState → ℕ → Task
changed_task s t state set = record (task s t) { state = state; events = set }

-- the abstract state where a task has this state and these events now
abbrev pub system_with_task_state : System → ℕ → TaskState → ℕ → System
system_with_task_state s t state set = moved_system s t (changed_task s t state set) s.symbols

-- The task `t` has this state and these events now; it is Active where it was, and it is not Suspended. What runs goes on, with
-- all registers. Of RAM the word of the task's events alone changes.
pub record TaskChange (b : Build) (old now : State) (s : System) (t : ℕ) (state : TaskState) (set : ℕ) : Type 0 where
  pub same_active : is_active state ≡ is_active (task s t).state
  pub awake : state ≢ mode.Suspended
  pub machine : WholeMachine old now
  pub pc : now.pc ≡ old.pc
  pub registers : now.core.registers ≡ old.core.registers
  pub level : now.core.ilevel ≡ old.core.ilevel
  -- the lines
  pub own_line : AreLineBytes state (slice_index now.core.pending t) (slice_index now.core.enabled t)
  pub own_bit : slice_index now.core.pending t < 2
  pub other_pending : (line : ℕ) → line ≢ t → slice_index now.core.pending line ≡ slice_index old.core.pending line
  pub other_enabled : (line : ℕ) → line ≢ t → slice_index now.core.enabled line ≡ slice_index old.core.enabled line
  -- RAM
  pub high : (i : ℕ) → idle_context ≤ i → slice_index now.core.ram i ≡ slice_index old.core.ram i
  pub named : (p : ℕ) → p + 4 ≤ idle_context → p % 4 ≡ 0 → p ≢ events t → word_at now.core.ram p ≡ word_at old.core.ram p
  pub event_word : word_at now.core.ram (events t) ≡ set
  pub wait_word : IsWaitWord state (word_at now.core.ram (wait t))
