-- The lines of the command `bounds`.
use Rattle.std.specs.Prelude.{ℕ, zero, suc, ◌*◌, ◌<◌, ◌≤◌, ◌≡◌, List, [], ◌++◌, codes, decimal, length, get_or}
use Rattle.sloth_base.specs.declared.config.Config.{Config}
use Rattle.sloth_base.specs.declared.config.TaskDecl.{TaskDecl}
use Rattle.sloth_base.specs.declared.app.App.{App}
use Rattle.sloth_base.specs.Named.{undeclared_task}
use Rattle.sloth_base.specs.Limits.{count_limit, item_counts}
use Rattle.sloth_source.specs.Texts.{AreAccepted}
use Rattle.bound_rules.specs.declared.bound.Bound.{Bound}
use Rattle.bound_rules.specs.declared.bound.Bound.TheVariants as bound
use Rattle.bounds_text.specs.Bounds.{AreToldBounds}
use Rattle.bounds_text.specs.KeptRuns.{RunsKeepAll}

-- a bound in items is small enough to be told
abbrev pub IsTellable : Bound → Type 0
IsTellable (bound.Items n) = n ≤ count_limit
IsTellable bound.Huge = Unit {0}
IsTellable bound.Endless = Unit {0}

-- the same of each of these bounds
abbrev pub AreTellable : List Bound → Type 0
AreTellable bounds = (t : ℕ) → t < length bounds → IsTellable (get_or bounds t bound.Endless)

-- a bound in items and in counts, 200 of each item
abbrev pub bound_text : Bound → List ℕ
bound_text (bound.Items n) = ((codes " " ++ decimal n) ++ codes " ") ++ decimal (item_counts * n)
bound_text bound.Huge = codes " huge"
bound_text bound.Endless = codes " endless"

-- the line of a task
unfoldable pub bound_line : List TaskDecl → List Bound → ℕ → List ℕ
bound_line tasks bounds task = ((get_or tasks task undeclared_task).name ++ bound_text (get_or bounds task bound.Endless)) ++ codes "\n"

-- the lines of the first tasks, so many of them
unfoldable pub bound_lines : List TaskDecl → List Bound → ℕ → List ℕ
bound_lines tasks bounds zero = []
bound_lines tasks bounds (suc k) = bound_lines tasks bounds k ++ bound_line tasks bounds k

-- these are the lines of the bounds of all tasks, and runs keep them
pub record HasLines (config : Config) (app : App) (text : List ℕ) : Type 0 where
  pub bounds : List Bound
  pub are_bounds : AreToldBounds config app bounds
  pub lines : text ≡ bound_lines config.tasks bounds (length config.tasks)
  pub kept : RunsKeepAll config app bounds

-- the texts are accepted, and these are the lines of what they mean
pub record IsBoundsText (oil src text : List ℕ) : Type 0 where
  pub config : Config
  pub app : App
  pub accepted : AreAccepted oil src config app
  pub has_lines : HasLines config app text

-- texts have one list of lines at most
abbrev pub OneText : Type 0
OneText = (oil src one other : List ℕ) → IsBoundsText oil src one → IsBoundsText oil src other → one ≡ other
