-- Sections of walks at which a task's current priority is that of another task or above it, and what their sizes bound.
use Rattle.std.specs.Prelude.{ℕ, suc, ◌+◌, ◌<◌, ◌≤◌, ◌≡◌, ◌≢◌, List, [], ◌∷◌, ◌++◌, Bool, true, false, not, cond, length}
use Rattle.std.specs.List.{AllByRecursion}
use Rattle.sloth_base.specs.declared.config.Config.{Config}
use Rattle.sloth_base.specs.declared.app.App.{App}
use Rattle.sloth_base.specs.declared.app.Op.{Op}
use Rattle.sloth_base.specs.declared.app.Op.TheVariants as op
use Rattle.sloth_base.specs.declared.service.Service.TheVariants as service
use Rattle.sloth_base.specs.Named.{declaration, operation}
use Rattle.sloth_base.specs.ServiceCodes.{is_service}
use Rattle.sloth_base.specs.Limits.{count_limit}
use Rattle.code_rules.specs.Code.{ends_for_good}
use Rattle.code_rules.specs.WellFormed.{held_list_before}
use Rattle.osek_scheduler.specs.State.{sleeping_task}
use Rattle.osek_scheduler.specs.Apart.{priority_of, static_priority}
use Rattle.osek_blocking.specs.Walks.{Position, IsWalk}

-- ---- a position

-- what the functions in progress hold, the outermost's first
abbrev pub held_list_along : App → Position → List ℕ
held_list_along app [] = []
held_list_along app (here ∷ outer) = held_list_along app outer ++ held_list_before app here.func here.item

-- the current priority of task t at a position (OSEK OS 2.2.3, section 8.6); a task that is not preemptable counts as always raised
abbrev pub priority_at : Config → App → (t : ℕ) → Position → ℕ
priority_at config app t at =
    priority_of config t (record sleeping_task { held = held_list_along app at; raised = (declaration config t).non })

-- the operation at a position
abbrev pub operation_at : App → Position → Op
operation_at app [] = op.Return
operation_at app (here ∷ outer) = operation app here.func here.item

-- a Schedule, at which a task that is not preemptable lets others in (OSEK OS 2.2.3, section 13.2.3.4)
abbrev pub is_schedule : Op → Bool
is_schedule (op.Serve call) = is_service call.service service.Schedule
is_schedule _ = false

-- it is not TerminateTask, so it is seen as a `run` or `call` event where its task goes on
abbrev pub is_counted : Op → Bool
is_counted (op.Serve call) = not (ends_for_good call.service)
is_counted _ = true

-- ---- sections

-- none of these positions but the last is a Schedule
abbrev pub OnlyLastSchedules : App → List Position → Type 0
OnlyLastSchedules app [] = Unit {0}
OnlyLastSchedules app (at ∷ further) = (further ≢ [] → is_schedule (operation_at app at) ≡ false) × OnlyLastSchedules app further

-- consecutive positions of a walk of task t, at each of which its current priority is at least the static priority of task h
pub record IsSection (config : Config) (app : App) (h t : ℕ) (positions : List Position) : Type 0 where
  -- what of the walk is in front of them; what is behind them does not matter
  pub before : List Position
  pub of_walk : IsWalk app t (before ++ positions)
  pub raised : AllByRecursion (λ at. static_priority config h ≤ priority_at config app t at) positions
  pub unbroken : OnlyLastSchedules app positions

-- how many of these positions are not TerminateTask
abbrev pub size_of_section : App → List Position → ℕ
size_of_section app [] = 0
size_of_section app (at ∷ further) = cond (is_counted (operation_at app at)) 1 0 + size_of_section app further

-- ---- bounds

-- a task of the configuration of lower static priority
abbrev pub IsLower : Config → (h t : ℕ) → Type 0
IsLower config h t = (t < length config.tasks) × (static_priority config t < static_priority config h)

-- a section for h of a lower task
pub record IsSectionFor (config : Config) (app : App) (h : ℕ) (positions : List Position) : Type 0 where
  pub task : ℕ
  pub lower : IsLower config h task
  pub is_section : IsSection config app h task positions

-- no section for h is larger
abbrev pub NoneIsLarger : Config → App → (h n : ℕ) → Type 0
NoneIsLarger config app h n = (positions : List Position) → IsSectionFor config app h positions → size_of_section app positions ≤ n

-- the greatest size of a section for h
pub record IsGreatestSize (config : Config) (app : App) (h n : ℕ) : Type 0 where
  pub positions : List Position
  pub is_section : IsSectionFor config app h positions
  pub size : size_of_section app positions ≡ n
  pub none_larger : NoneIsLarger config app h n

-- The bound of task h: 0 where no task is lower, else 1 plus the greatest size of a section for h. The 1 stands for a service that was
-- running as an arrival made h Ready.
pub data IsBound (config : Config) (app : App) (h : ℕ) : ℕ → Type 0 where
  lowest : ((t : ℕ) → ¬ (IsLower config h t)) → IsBound config app h 0
  above : (n : ℕ) → IsGreatestSize config app h n → IsBound config app h (suc n)

-- a section for h is larger than n
abbrev pub SomeIsLarger : Config → App → (h n : ℕ) → Type 0
SomeIsLarger config app h n = (positions : List Position) × IsSectionFor config app h positions × (n < size_of_section app positions)

-- sections for h have no greatest size
abbrev pub HasNoBound : Config → App → (h : ℕ) → Type 0
HasNoBound config app h = (n : ℕ) → SomeIsLarger config app h n

-- the greatest bound that is told by its number
abbrev pub greatest_told_bound : ℕ
greatest_told_bound = count_limit

-- the bound of h is above this one: some section has as many positions, and their sizes have a limit
pub record ExceedsBound (config : Config) (app : App) (h limit : ℕ) : Type 0 where
  pub positions : List Position
  pub is_section : IsSectionFor config app h positions
  pub large : limit ≤ size_of_section app positions
  pub most : ℕ
  pub none_larger : NoneIsLarger config app h most
