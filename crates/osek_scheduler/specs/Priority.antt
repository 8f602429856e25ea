-- Priorities, the priority ceiling protocol, and the task or counter that is due (OSEK OS 2.2.3, sections 4.5, 4.6 and 8.6).
use Rattle.std.specs.Prelude.{ℕ, ◌+◌, ◌*◌, ◌<◌, ◌≤◌, ◌≡◌, ◌⊎◌, ◌==◌, List, [], ◌∷◌, Bool, true, false, cond, length, map, filter, max}
use Rattle.sloth_base.specs.declared.config.Config.{Config}
use Rattle.sloth_base.specs.declared.config.TaskDecl.{TaskDecl}
use Rattle.sloth_base.specs.ConfigRange.{scheduler_number}
use Rattle.code_rules.specs.Code.{is_in}
use Rattle.osek_scheduler.specs.declared.state.TaskState.{TaskState}
use Rattle.osek_scheduler.specs.declared.state.TaskState.TheVariants as mode
use Rattle.osek_scheduler.specs.State.{Task, System, task, counter}
use Rattle.sloth_base.specs.Named.{declaration}

-- the greatest of these numbers, 0 where there is none
abbrev pub greatest : List ℕ → ℕ
greatest [] = 0
greatest (x ∷ xs) = max x (greatest xs)

-- the highest task priority of the configuration
abbrev pub highest_priority : Config → ℕ
highest_priority config = greatest (map (λ d. d.priority) config.tasks)

-- The ceiling of a resource: the highest priority of the tasks that list it. That of RES_SCHEDULER is the highest of all.
abbrev pub ceiling : Config → ℕ → ℕ
ceiling config r = cond (r == scheduler_number) (highest_priority config) (greatest (map (λ d. d.priority) (filter (λ d. is_in r d.resources) config.tasks)))

-- the greatest of the static priority, the ceilings of what is held, and for a task that has its internal resource the highest priority
abbrev pub current_priority : Config → TaskDecl → Task → ℕ
current_priority config d t = max d.priority (max (greatest (map (ceiling config) t.held)) (cond t.raised (highest_priority config) 0))

-- a task is Active
abbrev pub is_active : TaskState → Bool
is_active mode.Suspended = false
is_active mode.Ready = false
is_active mode.Active = true
is_active (mode.Waiting mask) = false

-- The order of the tasks that are due: by current priority, Active before Ready. A Ready task counts with its static priority.
abbrev pub rank : Config → System → ℕ → ℕ
rank config s t = cond (is_active (task s t).state)
    (2 * current_priority config (declaration config t) (task s t) + 1)
    (2 * (declaration config t).priority)

-- a task is Ready or Active
abbrev pub IsDue : System → ℕ → Type 0
IsDue s t = ((task s t).state ≡ mode.Ready) ⊎ ((task s t).state ≡ mode.Active)

-- no counter is due
abbrev pub NoTicks : Config → System → Type 0
NoTicks config s = (c : ℕ) → c < length config.counters → (counter s c).due ≡ false

-- the due counter of least number; it stands above all tasks
pub record IsNextTick (config : Config) (s : System) (c : ℕ) : Type 0 where
  pub declared : c < length config.counters
  pub due : (counter s c).due ≡ true
  pub is_first : (d : ℕ) → d < c → (counter s d).due ≡ false

-- the greatest, in this order, of the Ready and Active tasks that are not among `others`, where no counter is due
pub record IsTop (config : Config) (s : System) (others : List ℕ) (t : ℕ) : Type 0 where
  pub declared : t < length config.tasks
  pub due : IsDue s t
  pub is_greatest : (u : ℕ) → u < length config.tasks → IsDue s u → is_in u others ≡ false → rank config s u ≤ rank config s t
  pub is_not_left_out : is_in t others ≡ false
  pub no_ticks : NoTicks config s
