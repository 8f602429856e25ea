-- Levels of tasks and ceilings of resources.
use Rattle.std.specs.Prelude.{◌≡◌, ℕ, ◌<◌, ◌≤◌, Bool, ◌==◌, max, List, length, map, filter, fold, slice_index, slice_index_or}
use Rattle.std.specs.List.{list_any}
use Rattle.sloth_base.specs.declared.config.TaskDecl.{TaskDecl}
use Rattle.sloth_base.specs.declared.config.Config.{Config}
use Rattle.sloth_base.specs.declared.limits.Levels.{Levels}
use Rattle.sloth_base.specs.PriorityLevels.{level_among}
use Rattle.sloth_base.specs.ConfigRange.{scheduler_number}
use Rattle.sloth_base.specs.Limits.{task_limit}

-- whether a task lists a resource
abbrev pub lists : ℕ → TaskDecl → Bool
lists resource task = list_any (λ listed. listed == resource) task.resources

-- the greatest level among the tasks that list the resource, 0 where none does (OSEK OS 2.2.3, section 8.5)
abbrev pub ceiling : List TaskDecl → ℕ → ℕ
ceiling tasks resource = fold max 0 (map (λ task. level_among tasks task.priority) (filter (lists resource) tasks))

-- The level of a task is that of its priority. There are no levels of tasks that do not exist.
pub record AreTaskLevels (tasks : List TaskDecl) (levels : List ℕ) : Type 0 where
  pub of_task : (t : ℕ) (d : TaskDecl) → t < length tasks → slice_index levels t ≡ level_among tasks (slice_index_or tasks t d).priority
  pub no_task : (t : ℕ) → length tasks ≤ t → t < task_limit → slice_index levels t ≡ 0

-- The ceilings of the resources 0 to 31, and that of RES_SCHEDULER, which is the level of the highest task.
pub record AreCeilings (tasks : List TaskDecl) (ceilings : List ℕ) : Type 0 where
  pub listed : (r : ℕ) → r < scheduler_number → slice_index ceilings r ≡ ceiling tasks r
  pub scheduler : slice_index ceilings scheduler_number ≡ length tasks

-- the levels of a configuration
pub record AreLevels (config : Config) (levels : Levels) : Type 0 where
  pub tasks : AreTaskLevels config.tasks levels.task
  pub ceilings : AreCeilings config.tasks levels.ceiling
  pub no_resource : (r : ℕ) → length config.resources ≤ r → r < scheduler_number → slice_index levels.ceiling r ≡ 0
  pub top : levels.top ≡ length config.tasks
