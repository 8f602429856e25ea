-- Which tasks clear an event before they wait for it again.
use Rattle.std.specs.Prelude.{ℕ, ◌^◌, ◌<◌, ◌≤◌, ◌≡◌, ◌&&◌, leb, Bool, true, false, List, length, get_or, Decides}
use Rattle.sloth_base.specs.declared.app.App.{App}
use Rattle.sloth_base.specs.declared.app.Func.{Func}
use Rattle.sloth_base.specs.Named.{body_of}
use Rattle.osek_blocking.specs.Walks.{Position}
use Rattle.osek_blocking.specs.Sections.{operation_at}
use Rattle.bound_rules.specs.declared.bound.Summary.{Summary}
use Rattle.bound_rules.specs.Summaries.{summary_of}
use Rattle.bound_rules.specs.Tasks.{task_at}
use Rattle.sloth_base.specs.declared.config.TaskDecl.{TaskDecl}
use Rattle.walk_sums.specs.Weights.{sum_of}
use Rattle.walk_sums.specs.declared.levels.Kind.TheVariants as kinds
use Rattle.walk_sums.specs.declared.counted.Counted.{Counted}
use Rattle.walk_sums.specs.declared.counted.Counted.TheVariants as counts
use Rattle.walk_sums.specs.Rounds.{IsPart, IsBehindWait, Anywhere, Reaches}
use Rattle.walk_sums.specs.Kinds.{stops}
use Rattle.walk_sums.specs.Counted.{counted_weights, is_ending_counted}

-- No walk of task t from one WaitEvent to the next leaves this bit, which the second one waits for, without a ClearEvent of it between them.
abbrev pub ClearsBit : App → (t k : ℕ) → Type 0
ClearsBit app t k =
    (positions : List Position) → IsPart app t (IsBehindWait app) Anywhere (stops (kinds.Uncleared (2 ^ k))) positions
    → sum_of (counted_weights (counts.Waits (2 ^ k)) app) positions ≤ 0

-- of each task it is marked whether it clears so many bits
pub record AreClearing (app : App) (tasks bits : ℕ) (marks : List Bool) : Type 0 where
  pub count : length marks ≡ tasks
  pub each : (t : ℕ) → t < tasks → Decides (get_or marks t false) ((k : ℕ) → k < bits → ClearsBit app t k)

-- by the sums of such walks of all functions: none waits for the bit
abbrev pub clears_it : List Func → List Summary → (t : ℕ) → Bool
clears_it funcs table t = leb (summary_of table (body_of funcs t)).most 1

-- of each task it is marked whether it was marked, and none of its walks waits for the bit
pub record AreAlsoClearing (funcs : List Func) (tasks : ℕ) (table : List Summary) (marks both : List Bool) : Type 0 where
  pub count : length both ≡ tasks
  pub exact : (t : ℕ) → t < tasks → get_or both t false ≡ (get_or marks t false && clears_it funcs table t)

-- by the sums that count Schedules at the end of turns: the task is not preemptable, and none of its turns reaches one
abbrev pub is_steady : List TaskDecl → List Func → List Summary → (t : ℕ) → Bool
is_steady tasks funcs table t = (task_at tasks t).non && leb (summary_of table (body_of funcs t)).on 1

-- of each task it is marked
pub record AreSteadyMarks (tasks : List TaskDecl) (funcs : List Func) (count : ℕ) (table : List Summary) (marks : List Bool) : Type 0 where
  pub marked : length marks ≡ count
  pub exact : (t : ℕ) → t < count → get_or marks t false ≡ is_steady tasks funcs table t

-- a walk of task t reaches what counts at the end of a walk
abbrev pub ReachesCounted : App → (t : ℕ) → Counted → Type 0
ReachesCounted app t c = (at : Position) × Reaches app t at × (is_ending_counted c (operation_at app at) ≡ true)
