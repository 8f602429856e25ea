-- Task code in which loops are sought, and how their lines are found.
use Rattle.std.specs.Prelude.{ℕ, ◌+◌, ◌<◌, ◌≡◌, ◌&&◌, ltb, not, cond, Bool, false, List, length, get_or, Option, None}
use Rattle.sloth_base.specs.declared.app.App.{App}
use Rattle.sloth_base.specs.declared.app.Func.{Func}
use Rattle.sloth_base.specs.declared.app.Op.{Op}
use Rattle.sloth_base.specs.declared.app.Op.TheVariants as op
use Rattle.sloth_base.specs.Named.{function, item_of}
use Rattle.bound_rules.specs.declared.bound.Body.{Body}
use Rattle.bound_rules.specs.declared.bound.Summary.{Summary}
use Rattle.bound_rules.specs.declared.bound.BodyWeights.{BodyWeights}
use Rattle.bound_rules.specs.Items.{reaches_level}
use Rattle.bound_rules.specs.Summaries.{summary_of}
use Rattle.bound_rules.specs.Weights.{no_weights}
use Rattle.run_windows.specs.RunWindows.{IsLeastOf}
use Rattle.walk_sums.specs.declared.graph.Ways.{Ways}
use Rattle.walk_sums.specs.declared.levels.Kind.{Kind}
use Rattle.walk_sums.specs.Graph.{ways_of}
use Rattle.walk_sums.specs.Computed.{is_alive, going_size}
use Rattle.walk_sums.specs.Links.{item_ways}
use Rattle.walk_sums.specs.Kinds.{is_going}
use Rattle.walk_sums.specs.Known.{endless_kind, AreSums}
use Rattle.walk_sums.specs.KnownBodies.{no_body}
use Rattle.walk_sums.specs.Search.{IsReachable}
use Rattle.walk_sums.specs.WalkedCode.{WalkedCode, IsWalked}
use Rattle.walk_sums.specs.Weights.{AreWeights}
use Rattle.response_reasons.specs.Doubled.{AreDoubled}
use Rattle.response_reasons.specs.Loops.{HasLoopAt}

-- task code with weights, and by them the summaries of its functions where their callers have raised the task
pub record LoopCode : Type 0 where
  pub walks : WalkedCode
  pub weights : List BodyWeights
  pub kind : Kind
  pub whole : List Summary

-- parts of the kind may begin at items of any source line
abbrev pub IsOfAllLines : Kind → Type 0
IsOfAllLines kind = endless_kind kind ≡ kind

pub record IsLoopCode (c : LoopCode) : Type 0 where
  pub walked : IsWalked c.walks
  pub fit : AreWeights c.walks.app c.weights
  pub of_all : IsOfAllLines c.kind
  pub sums : AreSums c.walks.config c.walks.app c.weights c.kind None c.whole

-- the functions through which a part may go, and whose parts have a limit
abbrev pub is_limited : Summary → Bool
is_limited s = not s.is_endless && ltb 0 s.back

-- The nodes of a body twice, and their ways past calls of such functions; it is that of function f.
pub record AreNodes (c : LoopCode) (level : Option ℕ) (f : ℕ) (func : Func) (body : Body) (twice : List Ways) : Type 0 where
  pub alive : List Bool
  pub alive_count : length alive ≡ length func.items
  pub alive_is : (i : ℕ) → i < length func.items → get_or alive i false ≡ is_alive body level i
  pub going : List Bool
  pub going_is : (i : ℕ) → i < length func.items → get_or going i false ≡ is_going func c.kind alive i
  pub limited : List Bool
  pub limited_is : (g : ℕ) → get_or limited g false ≡ is_limited (summary_of c.whole g)
  pub ways : List Ways
  pub ways_count : length ways ≡ length func.items
  pub ways_are : (i : ℕ) → i < length func.items → ways_of ways i ≡ item_ways func limited going alive i
  pub steps : List ℕ
  pub steps_are : (i : ℕ) → i < length func.items → get_or steps i 0 ≡ going_size c.whole (get_or (get_or c.weights f no_weights).going i 0) (item_of func i).op
  pub doubled : AreDoubled ways steps twice

abbrev pub AreLoopWays : LoopCode → (level : Option ℕ) → (f : ℕ) → (twice : List Ways) → Type 0
AreLoopWays c level f twice = AreNodes c level f (function c.walks.app f) (get_or c.walks.bodies f no_body) twice

-- item i of a body leads from its first node to its second one, and has this line
abbrev pub IsLineOfLoop : (func : Func) → (twice : List Ways) → (i line : ℕ) → Type 0
IsLineOfLoop func twice i line = IsReachable twice i (length func.items + i) × (line ≡ (item_of func i).line)

-- the line of a function, by a table
abbrev pub line_at : List (Option ℕ) → (g : ℕ) → Option ℕ
line_at lines g = get_or lines g None

-- of the function that item i calls, if it is a reached call: where the task is raised as it is called, and where not
abbrev pub called_line : Body → (level : Option ℕ) → (whole own : List (Option ℕ)) → (i : ℕ) → Op → Option ℕ
called_line body level whole own i (op.Invoke g) =
    cond (get_or body.reached i false) (cond (reaches_level level (get_or body.ceilings i 0)) (line_at whole g) (line_at own g)) None
called_line body level whole own i o = None

-- the least line of an item on a loop in function f, or in one that it calls, if there is one
abbrev pub IsLeastLine : LoopCode → (level : Option ℕ) → (f : ℕ) → Option ℕ → Type 0
IsLeastLine c level f line = IsLeastOf (HasLoopAt c.walks.config c.walks.app c.weights c.kind level f) line

-- the lines of all functions, each of its kind
pub record AreEachLine (app : App) (IsLine : ℕ → Option ℕ → Type 0) (lines : List (Option ℕ)) : Type 0 where
  pub count : length lines ≡ length app.funcs
  pub each : (f : ℕ) → f < length app.funcs → IsLine f (line_at lines f)

-- the least ones
abbrev pub AreLeastLines : LoopCode → (level : Option ℕ) → List (Option ℕ) → Type 0
AreLeastLines c level lines = AreEachLine c.walks.app (IsLeastLine c level) lines
