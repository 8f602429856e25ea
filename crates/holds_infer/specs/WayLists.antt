-- Task code whose labels have the lists that ways to them hold.
use Rattle.std.specs.Prelude.{ℕ, ◌≡◌, ◌<◌, ◌⊎◌, List, [], length, get_or, Some, None}
use Rattle.sloth_base.specs.declared.app.App.{App}
use Rattle.sloth_base.specs.declared.app.Func.{Func}
use Rattle.sloth_base.specs.declared.app.Label.{Label}
use Rattle.sloth_base.specs.Named.{no_function, label_of}
use Rattle.holds_infer.specs.Places.{PlaceLists}
use Rattle.code_rules.specs.Code.{IsPathStep}
use Rattle.holds_infer.specs.Filling.{bare_func}
use Rattle.holds_infer.specs.LabelWays.{HoldsOnWay}

-- a way to the place holds these
abbrev pub IsWayList : Func → (place : ℕ) → (held : List ℕ) → Type 0
IsWayList f place held = (way : List ℕ) × HoldsOnWay f place way held

-- so it is of each place that has a list
abbrev pub AreWayLists : Func → PlaceLists → Type 0
AreWayLists f lists = (i : ℕ) (held : List ℕ) → get_or lists i None ≡ Some held → IsWayList f i held

-- a way by item i to any place that it leads to holds these
abbrev pub AreHeldBehind : Func → (i : ℕ) → (held : List ℕ) → Type 0
AreHeldBehind f i held = (k : ℕ) → IsPathStep f i k → IsWayList f k held

-- the list of a label is what a way to it holds, or it is empty
abbrev pub HasWayList : Func → Label → Type 0
HasWayList f l = (l.holds ≡ []) ⊎ IsWayList f l.item l.holds

-- g is f with such lists at its labels
pub record IsWayFilling (f g : Func) : Type 0 where
  pub same : bare_func f ≡ bare_func g
  pub lists : (k : ℕ) → k < length g.labels → HasWayList f (label_of g k)

-- so it is of each of these bodies
pub record AreWayFillings (fs gs : List Func) : Type 0 where
  pub count : length gs ≡ length fs
  pub each : (b : ℕ) → b < length fs → IsWayFilling (get_or fs b no_function) (get_or gs b no_function)

-- other is the task code with such lists at its labels
pub record IsWayFilled (app other : App) : Type 0 where
  pub funcs : AreWayFillings app.funcs other.funcs
  pub symbols : other.symbols ≡ app.symbols
