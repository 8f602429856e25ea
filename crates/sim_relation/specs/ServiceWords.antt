-- A task's words among the service words.
use Rattle.std.specs.Prelude.{ℕ, ◌≡◌, List, [], ◌∷◌, cond, max}
use Rattle.sloth_region.specs.Layout.{active, events, wait, saved_level}
use Rattle.rv32_instr.specs.Ram.{word_at}
use Rattle.osek_scheduler.specs.declared.state.TaskState.{TaskState}
use Rattle.osek_scheduler.specs.declared.state.TaskState.TheVariants as mode
use Rattle.osek_scheduler.specs.State.{Task}
use Rattle.sloth_base.specs.Named.{declaration}
use Rattle.osek_scheduler.specs.Priority.{highest_priority, ceiling, is_active}
use Rattle.sloth_base.specs.PriorityLevels.{level_of}
use Rattle.sim_relation.specs.Build.{Build}
use Rattle.sim_relation.specs.Context.{HasOwnContext}

-- the word that says whether a task is Active
abbrev pub active_word : TaskState → ℕ
active_word state = cond (is_active state) 1 0

-- the word of the events that a task waits for is stale where it does not wait
abbrev pub IsWaitWord : TaskState → ℕ → Type 0
IsWaitWord (mode.Waiting mask) word = word ≡ mask
IsWaitWord mode.Suspended word = Unit {0}
IsWaitWord mode.Ready word = Unit {0}
IsWaitWord mode.Active word = Unit {0}

-- each held resource's word is the level that ran as it was taken; `priority` was the current priority before the first
abbrev pub AreHeldWords : Build → List ℕ → ℕ → List ℕ → Type 0
AreHeldWords b ram priority [] = Unit {0}
AreHeldWords b ram priority (r ∷ held) =
    (word_at ram (saved_level r) ≡ level_of b.config priority) × AreHeldWords b ram (max priority (ceiling b.config r)) held

-- the priority of a task less the ceilings of what it holds
abbrev pub base_priority : Build → ℕ → Task → ℕ
base_priority b t own = max (declaration b.config t).priority (cond own.raised (highest_priority b.config) 0)

-- the service words of a task say what its record does
pub record AreServiceWords (b : Build) (ram : List ℕ) (t : ℕ) (own : Task) : Type 0 where
  pub activity : word_at ram (active t) ≡ active_word own.state
  pub event_mask : word_at ram (events t) ≡ own.events
  pub wait_mask : IsWaitWord own.state (word_at ram (wait t))
  pub resumption : HasOwnContext b ram t own (is_active own.state) own.frames
  pub held : AreHeldWords b ram (base_priority b t own) own.held
