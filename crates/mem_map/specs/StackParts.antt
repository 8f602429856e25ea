-- Which stack each task has, and its part of it.
use Rattle.std.specs.Prelude.{ℕ, zero, suc, ◌+◌, ◌<◌, ◌≤◌, ◌==◌, Bool, List, cond, length, get_or}
use Rattle.sloth_base.specs.Named.{undeclared_task}
use Rattle.sloth_base.specs.declared.config.TaskDecl.{TaskDecl}
use Rattle.sloth_region.specs.declared.region.Extent.{Extent}

-- what stands in the place of an extent that is not there
abbrev pub no_extent : Extent
no_extent = record { base = 0; len = 0 }

-- whether a task has events
abbrev pub is_extended : List TaskDecl → ℕ → Bool
is_extended tasks t = (get_or tasks t undeclared_task).extended

-- how many of the tasks before this one are extended
abbrev pub own_before : List TaskDecl → ℕ → ℕ
own_before tasks zero = 0
own_before tasks (suc t) = own_before tasks t + cond (is_extended tasks t) 1 0

-- the place of the first extended task's stack among the stacks: behind the shared one, if some task is basic
abbrev pub first_own : List TaskDecl → ℕ
first_own tasks = cond (own_before tasks (length tasks) == length tasks) 0 1

-- the place of a task's stack among the stacks
abbrev pub stack_number : List TaskDecl → ℕ → ℕ
stack_number tasks t = cond (is_extended tasks t) (first_own tasks + own_before tasks t) 0

-- a task's part has room in the stack that it has among these
pub record HasStack (tasks : List TaskDecl) (all : List Extent) (offsets : List ℕ) (t : ℕ) : Type 0 where
  pub there : stack_number tasks t < length all
  pub below : get_or offsets t 0 ≤ (get_or all (stack_number tasks t) no_extent).len
  pub short : (get_or all (stack_number tasks t) no_extent).base + (get_or all (stack_number tasks t) no_extent).len < 4294967296
