-- An order of functions on its way.
use Rattle.std.specs.Prelude.{ℕ, ◌<◌, ◌≡◌, true, Bool, List, length, get_or, take}
use Rattle.sloth_base.specs.declared.app.App.{App}
use Rattle.code_rules.specs.Code.{is_in, HasCall}
use Rattle.walk_sums.specs.Graph.{HasMark}

-- the functions of the order are those that are done, each behind those that it calls
pub record IsOrdering (app : App) (done : List Bool) (order : List ℕ) : Type 0 where
  pub count : length done ≡ length app.funcs
  pub listed : (f : ℕ) → HasMark done f → is_in f order ≡ true
  pub ordered : (f : ℕ) → is_in f order ≡ true → (f < length app.funcs) × HasMark done f
  pub behind : (k g : ℕ) → k < length order → HasCall app (get_or order k 0) g → is_in g (take k order) ≡ true
