-- What is known of bodies before any weights.
use Rattle.std.specs.Prelude.{ℕ, ◌<◌, ◌≡◌, ◌↔◌, ◌&&◌, Decides, Bool, true, false, List, [], length, get_or}
use Rattle.sloth_base.specs.declared.config.Config.{Config}
use Rattle.sloth_base.specs.declared.app.App.{App}
use Rattle.sloth_base.specs.declared.app.Func.{Func}
use Rattle.sloth_base.specs.declared.app.Op.{Op}
use Rattle.sloth_base.specs.declared.app.Op.TheVariants as op
use Rattle.sloth_base.specs.Named.{function, item_of}
use Rattle.code_rules.specs.Code.{HasCall}
use Rattle.call_graph.specs.Reached.{any_below}
use Rattle.bound_rules.specs.declared.bound.Body.{Body}
use Rattle.walk_sums.specs.Graph.{HasMark}
use Rattle.walk_sums.specs.Activations.{ceiling_before, ReachesItem, CanReturn}

-- the items of function f that walks reach, and the ceilings before all of them
pub record IsKnownBody (config : Config) (app : App) (f : ℕ) (body : Body) : Type 0 where
  pub reached_count : length body.reached ≡ length (function app f).items
  pub reached : (i : ℕ) → HasMark body.reached i ↔ ReachesItem app f i
  pub ceilings_count : length body.ceilings ≡ length (function app f).items
  pub ceilings : (i : ℕ) → i < length (function app f).items → get_or body.ceilings i 0 ≡ ceiling_before config app f i

-- a body of which nothing is known
abbrev pub no_body : Body
no_body = record { reached = []; ceilings = [] }

-- what is known of each function
pub record AreKnownBodies (config : Config) (app : App) (bodies : List Body) : Type 0 where
  pub count : length bodies ≡ length app.funcs
  pub each : (f : ℕ) → f < length app.funcs → IsKnownBody config app f (get_or bodies f no_body)

-- of each function that function f calls it is marked whether it may return
abbrev pub KnowsReturns : App → ℕ → List Bool → Type 0
KnowsReturns app f returns = (g : ℕ) → HasCall app f g → Decides (get_or returns g false) (CanReturn app g)

-- ---- functions that return

-- a `ret`
abbrev pub is_return : Op → Bool
is_return op.Return = true
is_return _ = false

-- some reached item is a `ret`
abbrev pub returns_of : Func → (reached : List Bool) → Bool
returns_of f reached = any_below (length f.items) (λ i. get_or reached i false && is_return (item_of f i).op)
