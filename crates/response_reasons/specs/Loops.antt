-- Loops in the bodies of functions, along which something weighs, and the source lines of their items.
use Rattle.std.specs.Prelude.{ℕ, ◌+◌, ◌≡◌, ltb, ◌||◌, cond, Bool, true, false, List, Option, Some, None}
use Rattle.sloth_base.specs.declared.config.Config.{Config}
use Rattle.sloth_base.specs.declared.app.App.{App}
use Rattle.sloth_base.specs.Named.{function, operation, item_of, declaration, body_of}
use Rattle.code_rules.specs.Code.{IsItem}
use Rattle.osek_scheduler.specs.Apart.{static_priority}
use Rattle.bound_rules.specs.declared.bound.BodyWeights.{BodyWeights}
use Rattle.bound_rules.specs.Weights.{going_weight}
use Rattle.walk_sums.specs.declared.levels.Kind.{Kind}
use Rattle.walk_sums.specs.declared.levels.Kind.TheVariants as kinds
use Rattle.walk_sums.specs.Activations.{is_raised, ReachesItem, IsRaisedCall, ReachesCall, level_behind}
use Rattle.walk_sums.specs.Parts.{IsOpenStep, SumsBack}
use Rattle.walk_sums.specs.Known.{HasLimit}

-- walks reach item i of function f, and the task is raised before it
pub record IsRaisedItem (config : Config) (app : App) (level : Option ℕ) (f i : ℕ) : Type 0 where
  pub reached : ReachesItem app f i
  pub item : IsItem app f i (operation app f i)
  pub raised : is_raised config app level f i ≡ true

-- From item i of function f a part of a walk goes on to item j in the same activation, and n is what that weighs: by a step, or past a call that returns. A
-- call is not passed where parts of what it calls have no limit: they go round a loop there.
pub data GoesOn (config : Config) (app : App) (weights : List BodyWeights) (kind : Kind) (level : Option ℕ) (f i j : ℕ) : (n : ℕ) → Type 0 where
  goes_inside : IsRaisedItem config app level f i → IsRaisedItem config app level f j → IsOpenStep config app kind level f i j
      → GoesOn config app weights kind level f i j (going_weight weights f i)
  goes_past : (g n : ℕ) → IsRaisedItem config app level f i → IsRaisedItem config app level f j → j ≡ i + 1 → IsRaisedCall config app level f i g
      → HasLimit config app weights kind None g → SumsBack config app weights kind None g 0 n → GoesOn config app weights kind level f i j (going_weight weights f i + n)

-- from item i it comes to item j so, and something weighs on the way or nothing does
pub data Comes (config : Config) (app : App) (weights : List BodyWeights) (kind : Kind) (level : Option ℕ) (f i : ℕ) : (weighs : Bool) → (j : ℕ) → Type 0 where
  comes_first : Comes config app weights kind level f i false i
  comes_further : (weighs : Bool) (j k n : ℕ) → Comes config app weights kind level f i weighs j → GoesOn config app weights kind level f j k n
      → Comes config app weights kind level f i (weighs || ltb 0 n) k

-- item i lies on a loop along which something weighs
abbrev pub IsOnLoop : Config → App → (weights : List BodyWeights) → Kind → (level : Option ℕ) → (f i : ℕ) → Type 0
IsOnLoop config app weights kind level f i = Comes config app weights kind level f i true i

-- the source line of item i of function f
abbrev pub line_of : App → (f i : ℕ) → ℕ
line_of app f i = (item_of (function app f) i).line

-- an item of this line lies on such a loop, in function f or in one that it calls
pub data HasLoopAt (config : Config) (app : App) (weights : List BodyWeights) (kind : Kind) : (level : Option ℕ) → (f line : ℕ) → Type 0 where
  loop_here : (level : Option ℕ) (f i : ℕ) → IsOnLoop config app weights kind level f i → HasLoopAt config app weights kind level f (line_of app f i)
  loop_called : (level : Option ℕ) (f i g line : ℕ) → ReachesCall app f i g → HasLoopAt config app weights kind (level_behind config app level f i) g line
      → HasLoopAt config app weights kind level f line

-- in turns or rounds of task t
abbrev pub HasTurnLoop : Config → App → (weights : List BodyWeights) → Kind → (t line : ℕ) → Type 0
HasTurnLoop config app weights kind t line = HasLoopAt config app weights kind None (body_of app.funcs t) line

-- the level that its body has to reach for task h
abbrev pub section_level : Config → (h t : ℕ) → Option ℕ
section_level config h t = cond (declaration config t).non None (Some (static_priority config h))

-- in its raised sections for task h
abbrev pub HasSectionLoop : Config → App → (weights : List BodyWeights) → (h t line : ℕ) → Type 0
HasSectionLoop config app weights h t line = HasLoopAt config app weights kinds.Sections (section_level config h t) (body_of app.funcs t) line
