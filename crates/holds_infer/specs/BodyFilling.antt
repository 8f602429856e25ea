-- A body with lists at its labels.
use Rattle.std.specs.Prelude.{ℕ, ◌≡◌, ◌<◌, List, length, get_or, All}
use Rattle.sloth_base.specs.declared.config.Config.{Config}
use Rattle.sloth_base.specs.declared.app.App.{App}
use Rattle.sloth_base.specs.declared.app.Func.{Func}
use Rattle.sloth_base.specs.declared.app.Label.{Label}
use Rattle.sloth_base.specs.Named.{no_function}
use Rattle.code_rules.specs.AppRange.{IsResource}
use Rattle.task_verify.specs.Cases.{AreOps}
use Rattle.holds_infer.specs.Filling.{bare_func, IsClear}
use Rattle.holds_infer.specs.RightLists.{HasItsLabels, HasRightLists}

-- the labels have lists of resources
abbrev pub HasResourceLists : Config → Func → Type 0
HasResourceLists config f = All (λ (l : Label). All (IsResource config) l.holds) f.labels

-- so it is in each of these bodies
abbrev pub HaveTheirLabels : List Func → Type 0
HaveTheirLabels fs = (b : ℕ) → b < length fs → HasItsLabels (get_or fs b no_function)

-- g is f with lists of resources; if f has right lists at all, they are those of g
pub record IsBodyFilling (f g : Func) : Type 0 where
  pub same : bare_func f ≡ bare_func g
  pub clear : IsClear g
  pub resources : (config : Config) (app : App) → AreOps config app f → HasResourceLists config g
  pub right : (h : Func) → bare_func f ≡ bare_func h → HasRightLists h → g ≡ h

-- so it is of each of these bodies
pub record AreBodyFillings (fs gs : List Func) : Type 0 where
  pub count : length gs ≡ length fs
  pub each : (b : ℕ) → b < length fs → IsBodyFilling (get_or fs b no_function) (get_or gs b no_function)
