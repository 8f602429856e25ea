-- What is told of the bounds of all tasks.
use Rattle.std.specs.Prelude.{ℕ, ◌<◌, ◌≤◌, ◌≡◌, ltb, cond, Bool, List, length, get_or}
use Rattle.sloth_base.specs.declared.config.Config.{Config}
use Rattle.sloth_base.specs.declared.config.TaskDecl.{TaskDecl}
use Rattle.sloth_base.specs.declared.app.App.{App}
use Rattle.call_graph.specs.Reached.{any_below}
use Rattle.osek_blocking.specs.Sections.{IsBound, HasNoBound, ExceedsBound, greatest_told_bound}
use Rattle.bound_rules.specs.declared.bound.Bound.{Bound}
use Rattle.bound_rules.specs.declared.bound.Bound.TheVariants as bound
use Rattle.bound_rules.specs.Tasks.{task_at, told}
use Rattle.walk_sums.specs.declared.sections.Sum.{Sum}
use Rattle.walk_sums.specs.declared.sections.Sum.TheVariants as sum
use Rattle.walk_sums.specs.Sections.{greatest_of}

-- what is told of task h is so: its bound, up to the greatest that is told; or that it is above that; or that sections have no greatest size
abbrev pub IsTold : Config → App → (h : ℕ) → Bound → Type 0
IsTold config app h (bound.Items n) = IsBound config app h n × (n ≤ greatest_told_bound)
IsTold config app h bound.Huge = ExceedsBound config app h greatest_told_bound
IsTold config app h bound.Endless = HasNoBound config app h

-- what is told of each task is so
pub record AreToldBounds (config : Config) (app : App) (bounds : List Bound) : Type 0 where
  pub count : length bounds ≡ length config.tasks
  pub each : (h : ℕ) → h < length config.tasks → IsTold config app h (get_or bounds h bound.Endless)

-- ---- how it is found

-- task t is lower than this priority
abbrev pub is_below : List TaskDecl → (priority t : ℕ) → Bool
is_below tasks priority t = ltb (task_at tasks t).priority priority

-- by the greatest size of the sections of lower tasks
abbrev pub sum_bound : Sum → Bound
sum_bound (sum.Counts size) = told size
sum_bound sum.Huge = bound.Huge
sum_bound sum.Endless = bound.Endless

-- the bound of task t, from the sums of the sections of all tasks for it
abbrev pub blocking_bound : List TaskDecl → List Sum → (t : ℕ) → Bound
blocking_bound tasks sums t = cond (any_below (length tasks) (is_below tasks (task_at tasks t).priority)) (sum_bound (greatest_of sums (length sums))) (bound.Items 0)
