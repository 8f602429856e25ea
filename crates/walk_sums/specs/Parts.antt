-- Parts of walks inside a function's activation, built item by item, and what they weigh.
use Rattle.std.specs.Prelude.{ℕ, ◌+◌, ◌≡◌, true, false, List, Option, None}
use Rattle.sloth_base.specs.declared.config.Config.{Config}
use Rattle.sloth_base.specs.declared.app.App.{App}
use Rattle.sloth_base.specs.declared.app.Op.TheVariants as op
use Rattle.sloth_base.specs.Named.{operation}
use Rattle.code_rules.specs.Code.{IsItem}
use Rattle.bound_rules.specs.declared.bound.BodyWeights.{BodyWeights}
use Rattle.bound_rules.specs.Weights.{going_weight, ending_weight}
use Rattle.walk_sums.specs.Activations.{is_raised, IsInnerStep, ReachesItem, IsRaisedCall, ReachesCall, level_behind}
use Rattle.walk_sums.specs.declared.levels.Kind.{Kind}
use Rattle.walk_sums.specs.Kinds.{stops, MayBegin}

-- at item i of function f, behind which parts go on, the task is raised, and a walk goes on to item j
pub record IsOpenStep (config : Config) (app : App) (kind : Kind) (level : Option ℕ) (f i j : ℕ) : Type 0 where
  pub step : IsInnerStep app f i j
  pub no_stop : stops kind step.operation ≡ false
  pub raised : is_raised config app level f i ≡ true

-- a part from item i of function f up to its `ret` weighs n
pub data SumsBack (config : Config) (app : App) (weights : List BodyWeights) (kind : Kind) : (level : Option ℕ) → (f i n : ℕ) → Type 0 where
  back_returns : (level : Option ℕ) (f i : ℕ) → IsItem app f i op.Return → is_raised config app level f i ≡ true → SumsBack config app weights kind level f i (going_weight weights f i)
  back_inside : (level : Option ℕ) (f i j n : ℕ) → IsOpenStep config app kind level f i j → SumsBack config app weights kind level f j n
      → SumsBack config app weights kind level f i (going_weight weights f i + n)
  back_passes : (level : Option ℕ) (f i g n k : ℕ) → IsRaisedCall config app level f i g → SumsBack config app weights kind None g 0 n
      → SumsBack config app weights kind level f (i + 1) k → SumsBack config app weights kind level f i (going_weight weights f i + (n + k))

-- a part from item i of function f that stays inside its activation weighs n
pub data SumsOn (config : Config) (app : App) (weights : List BodyWeights) (kind : Kind) : (level : Option ℕ) → (f i n : ℕ) → Type 0 where
  on_ends : (level : Option ℕ) (f i : ℕ) → IsItem app f i (operation app f i) → is_raised config app level f i ≡ true
      → SumsOn config app weights kind level f i (ending_weight weights f i)
  on_inside : (level : Option ℕ) (f i j n : ℕ) → IsOpenStep config app kind level f i j → SumsOn config app weights kind level f j n
      → SumsOn config app weights kind level f i (going_weight weights f i + n)
  on_enters : (level : Option ℕ) (f i g n : ℕ) → IsRaisedCall config app level f i g → SumsOn config app weights kind None g 0 n
      → SumsOn config app weights kind level f i (going_weight weights f i + n)
  on_passes : (level : Option ℕ) (f i g n k : ℕ) → IsRaisedCall config app level f i g → SumsBack config app weights kind None g 0 n
      → SumsOn config app weights kind level f (i + 1) k → SumsOn config app weights kind level f i (going_weight weights f i + (n + k))

-- a part that begins in the activation of function f, in a function that it calls too, and ends with its `ret`, weighs n
pub data SumsOut (config : Config) (app : App) (weights : List BodyWeights) (kind : Kind) : (level : Option ℕ) → (f n : ℕ) → Type 0 where
  out_here : (level : Option ℕ) (f i n : ℕ) → ReachesItem app f i → MayBegin app kind f i → SumsBack config app weights kind level f i n
      → SumsOut config app weights kind level f n
  out_behind : (level : Option ℕ) (f i g n k : ℕ) → ReachesCall app f i g → SumsOut config app weights kind (level_behind config app level f i) g n
      → SumsBack config app weights kind level f (i + 1) k → SumsOut config app weights kind level f (n + k)

-- a part that begins and stays in the activation of function f weighs n
pub data SumsWithin (config : Config) (app : App) (weights : List BodyWeights) (kind : Kind) : (level : Option ℕ) → (f n : ℕ) → Type 0 where
  within_here : (level : Option ℕ) (f i n : ℕ) → ReachesItem app f i → MayBegin app kind f i → SumsOn config app weights kind level f i n
      → SumsWithin config app weights kind level f n
  within_called : (level : Option ℕ) (f i g n : ℕ) → ReachesCall app f i g → SumsWithin config app weights kind (level_behind config app level f i) g n
      → SumsWithin config app weights kind level f n
  within_behind : (level : Option ℕ) (f i g n k : ℕ) → ReachesCall app f i g → SumsOut config app weights kind (level_behind config app level f i) g n
      → SumsOn config app weights kind level f (i + 1) k → SumsWithin config app weights kind level f (n + k)
