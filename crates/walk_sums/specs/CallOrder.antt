-- An order of the functions in which each stands behind those that it calls.
use Rattle.std.specs.Prelude.{ℕ, leb, cond, ◌<◌, ◌≤◌, ◌≡◌, true, false, Bool, List, length, get_or, take, Option, Some, None}
use Rattle.sloth_base.specs.declared.app.App.{App}
use Rattle.code_rules.specs.Code.{is_in, HasCall}
use Rattle.walk_sums.specs.Graph.{HasMark}

-- each function is there, behind those that it calls
pub record IsCallOrder (app : App) (order : List ℕ) : Type 0 where
  pub all : (f : ℕ) → f < length app.funcs → is_in f order ≡ true
  pub inside : (f : ℕ) → is_in f order ≡ true → f < length app.funcs
  pub behind : (k g : ℕ) → k < length order → HasCall app (get_or order k 0) g → is_in g (take k order) ≡ true

-- of the first n functions one of least rank among those that are not done, if there is one
abbrev pub IsLeastRank : (ranks : List ℕ) (done : List Bool) (n : ℕ) → Option ℕ → Type 0
IsLeastRank ranks done n None = (g : ℕ) → g < n → HasMark done g
IsLeastRank ranks done n (Some f) = (f < n) × (get_or done f false ≡ false) × ((g : ℕ) → g < n → get_or done g false ≡ false → get_or ranks f 0 ≤ get_or ranks g 0)

-- the one of two functions that has the lesser rank
abbrev pub lesser_of : (ranks : List ℕ) → Option ℕ → ℕ → Option ℕ
lesser_of ranks None f = Some f
lesser_of ranks (Some g) f = cond (leb (get_or ranks g 0) (get_or ranks f 0)) (Some g) (Some f)

-- the same, where the function is not done
abbrev pub lesser : (ranks : List ℕ) (done : List Bool) → Option ℕ → ℕ → Option ℕ
lesser ranks done best f = cond (get_or done f false) best (lesser_of ranks best f)
