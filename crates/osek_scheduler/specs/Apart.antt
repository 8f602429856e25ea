-- The order of the tasks that were entered, and mutual exclusion (OSEK OS 2.2.3, section 8).
use Rattle.std.specs.Prelude.{ℕ, ◌<◌, ◌≡◌, ◌≢◌, ◌⊎◌, [], true, length}
use Rattle.sloth_base.specs.declared.config.Config.{Config}
use Rattle.sloth_base.specs.Named.{declaration}
use Rattle.code_rules.specs.Code.{is_in}
use Rattle.osek_scheduler.specs.declared.state.TaskState.TheVariants as mode
use Rattle.osek_scheduler.specs.State.{Task, System, task}
use Rattle.osek_scheduler.specs.Priority.{current_priority}

-- the current priority of task t as it stands
abbrev pub priority_of : Config → (t : ℕ) → Task → ℕ
priority_of config t own = current_priority config (declaration config t) own

-- the priority of task t that the configuration declares
abbrev pub static_priority : Config → (t : ℕ) → ℕ
static_priority config t = (declaration config t).priority

-- task u is Active
abbrev pub IsActive : System → (u : ℕ) → Type 0
IsActive s u = (task s u).state ≡ mode.Active

-- two tasks of the configuration
pub record AreTwo (config : Config) (t u : ℕ) : Type 0 where
  pub first : t < length config.tasks
  pub second : u < length config.tasks
  pub differ : t ≢ u

-- task u could be entered over task t
abbrev pub IsOver : Config → System → (u t : ℕ) → Type 0
IsOver config s u t = priority_of config t (task s t) < static_priority config u

-- of two Active tasks one was entered over the other, and what was admitted since the last event is Ready
pub record TasksAreApart (config : Config) (s : System) : Type 0 where
  pub fresh_ready : (t : ℕ) → is_in t s.fresh ≡ true → (task s t).state ≡ mode.Ready
  pub apart : (t u : ℕ) → AreTwo config t u → IsActive s t → IsActive s u → IsOver config s u t ⊎ IsOver config s t u

-- No two tasks hold one resource, a task that is not Active holds none, and no two Active tasks have one current priority.
pub record HasExclusion (config : Config) (s : System) : Type 0 where
  pub one_holder : (t u r : ℕ) → AreTwo config t u → is_in r (task s t).held ≡ true → is_in r (task s u).held ≡ true → ⊥
  pub idle_holds_none : (t : ℕ) → t < length config.tasks → (task s t).state ≢ mode.Active → (task s t).held ≡ []
  pub priorities_differ : (t u : ℕ) → AreTwo config t u → IsActive s t → IsActive s u
      → priority_of config t (task s t) ≢ priority_of config u (task s u)
