-- Whether walks come to what is counted, and under which ceilings.
use Rattle.std.specs.Prelude.{ℕ, ◌+◌, ◌<◌, ◌≡◌, ◌==◌, max, cond, false, true, List, length, get_or}
use Rattle.sloth_base.specs.declared.config.Config.{Config}
use Rattle.sloth_base.specs.declared.app.App.{App}
use Rattle.sloth_base.specs.declared.app.Func.{Func}
use Rattle.sloth_base.specs.declared.app.Op.{Op}
use Rattle.sloth_base.specs.declared.app.Op.TheVariants as op
use Rattle.sloth_base.specs.Named.{operation, item_of, body_of}
use Rattle.call_graph.specs.Tables.{max_below}
use Rattle.bound_rules.specs.declared.bound.Body.{Body}
use Rattle.walk_sums.specs.Activations.{ReachesItem, ReachesCall, ceiling_before}
use Rattle.walk_sums.specs.declared.counted.Counted.{Counted}
use Rattle.walk_sums.specs.Counted.{is_ending_counted}

-- A walk that enters function f comes to an operation that counts, while the functions in progress hold resources up to this ceiling: the greatest of
-- those before it and before the calls that lead to it.
pub data ComesTo (config : Config) (app : App) (c : Counted) : (f ceiling : ℕ) → Type 0 where
  comes_here : (f i : ℕ) → ReachesItem app f i → is_ending_counted c (operation app f i) ≡ true → ComesTo config app c f (ceiling_before config app f i)
  comes_called : (f i g ceiling : ℕ) → ReachesCall app f i g → ComesTo config app c g ceiling
      → ComesTo config app c f (max ceiling (ceiling_before config app f i))

-- one more than the greatest such ceiling, 0 where no walk comes to one
pub record IsTop (config : Config) (app : App) (c : Counted) (f top : ℕ) : Type 0 where
  pub none_above : (ceiling : ℕ) → ComesTo config app c f ceiling → ceiling < top
  pub attained : 0 < top → (ceiling : ℕ) × ComesTo config app c f ceiling × (top ≡ ceiling + 1)

-- those of all functions
pub record AreTops (config : Config) (app : App) (c : Counted) (table : List ℕ) : Type 0 where
  pub count : length table ≡ length app.funcs
  pub each : (f : ℕ) → f < length app.funcs → IsTop config app c f (get_or table f 0)

-- those of all tasks
pub record AreTaskTops (config : Config) (app : App) (c : Counted) (tops : List ℕ) : Type 0 where
  pub count : length tops ≡ length config.tasks
  pub each : (t : ℕ) → t < length config.tasks → IsTop config app c (body_of app.funcs t) (get_or tops t 0)

-- ---- how they are found

-- behind a call under this ceiling
abbrev pub under : (ceiling top : ℕ) → ℕ
under ceiling top = cond (top == 0) 0 (max top (ceiling + 1))

-- of an operation, by those of the functions
abbrev pub op_top : Counted → (ceiling : ℕ) → List ℕ → Op → ℕ
op_top c ceiling table (op.Invoke g) = under ceiling (get_or table g 0)
op_top c ceiling table o = cond (is_ending_counted c o) (ceiling + 1) 0

-- of item i, where walks reach it
abbrev pub item_top : Counted → Func → Body → List ℕ → (i : ℕ) → ℕ
item_top c f body table i = cond (get_or body.reached i false) (op_top c (get_or body.ceilings i 0) table (item_of f i).op) 0

-- of a body
abbrev pub body_top : Counted → Func → Body → List ℕ → ℕ
body_top c f body table = max_below (length f.items) (item_top c f body table)
