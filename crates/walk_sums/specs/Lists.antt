-- What is made of a body before its summary.
use Rattle.std.specs.Prelude.{◌≡◌, ℕ, ◌<◌, Bool, false, List, length, get_or, Option, cond}
use Rattle.sloth_base.specs.declared.app.Func.{Func}
use Rattle.sloth_base.specs.Named.{item_of}
use Rattle.bound_rules.specs.declared.bound.Body.{Body}
use Rattle.bound_rules.specs.declared.bound.Summary.{Summary}
use Rattle.bound_rules.specs.declared.bound.BodyWeights.{BodyWeights}
use Rattle.bound_rules.specs.Weights.{no_weights}
use Rattle.bound_rules.specs.Summaries.{summary_of}
use Rattle.walk_sums.specs.declared.graph.Ways.{Ways}
use Rattle.walk_sums.specs.declared.levels.Kind.{Kind}
use Rattle.walk_sums.specs.declared.paths.Paths.{Paths}
use Rattle.walk_sums.specs.Graph.{ways_of}
use Rattle.walk_sums.specs.Trails.{IsLongest}
use Rattle.walk_sums.specs.Shapes.{IsShape}
use Rattle.walk_sums.specs.Computed.{is_passed, is_alive, going_size, ending_size, leaving_size}
use Rattle.walk_sums.specs.Links.{item_ways}
use Rattle.walk_sums.specs.Kinds.{is_going}
use Rattle.walk_sums.specs.Known.{CallerCode}

-- the ways of a body between items before which the task is raised
pub record AreBodyWays (kind : Kind) (func : Func) (body : Body) (level : Option ℕ) (whole : List Summary) (alive : List Bool) (ways : List Ways) : Type 0 where
  pub going : List Bool
  pub passed : List Bool
  pub alive_count : length alive ≡ length func.items
  pub alive_is : (i : ℕ) → i < length func.items → get_or alive i false ≡ is_alive body level i
  pub going_is : (i : ℕ) → i < length func.items → get_or going i false ≡ is_going func kind alive i
  pub passed_is : (g : ℕ) → get_or passed g false ≡ is_passed (summary_of whole g)
  pub ways_count : length ways ≡ length func.items
  pub ways_are : (i : ℕ) → i < length func.items → ways_of ways i ≡ item_ways func passed going alive i

-- what each item adds to a part that goes on behind it
pub record AreSteps (func : Func) (weights : BodyWeights) (whole : List Summary) (steps : List ℕ) : Type 0 where
  pub count : length steps ≡ length func.items
  pub each : (i : ℕ) → i < length func.items → get_or steps i 0 ≡ going_size whole (get_or weights.going i 0) (item_of func i).op

-- the weights of the body
abbrev pub weights_of : CallerCode → BodyWeights
weights_of c = get_or c.weights c.number no_weights

-- the paths of a body: its ways, what its items add, and how its trails go
pub record ArePaths (c : CallerCode) (paths : Paths) : Type 0 where
  pub ways : AreBodyWays c.kind c.known.func c.known.body c.known.level c.known.whole paths.alive paths.ways
  pub steps : AreSteps c.known.func (weights_of c) c.known.whole paths.steps
  pub shape : IsShape paths.ways paths.steps paths.shape

-- for each item the size of the longest trail from it
pub record AreEndingTrails (c : CallerCode) (paths : Paths) (on : List ℕ) : Type 0 where
  pub ends : List ℕ
  pub ends_count : length ends ≡ length c.known.func.items
  pub ends_are : (i : ℕ) → i < length c.known.func.items
      → get_or ends i 0 ≡ cond (get_or paths.alive i false) (ending_size c.known.whole (get_or (weights_of c).ending i 0) (item_of c.known.func i).op) 0
  pub on_count : length on ≡ length paths.ways
  pub on_is : (i : ℕ) → i < length paths.ways → IsLongest paths.ways paths.steps ends i (get_or on i 0)

-- the same of trails that end with the body's `ret`
pub record AreLeavingTrails (c : CallerCode) (paths : Paths) (back : List ℕ) : Type 0 where
  pub leaves : List ℕ
  pub leaves_count : length leaves ≡ length c.known.func.items
  pub leaves_are : (i : ℕ) → i < length c.known.func.items
      → get_or leaves i 0 ≡ cond (get_or paths.alive i false) (leaving_size (get_or (weights_of c).going i 0) (item_of c.known.func i).op) 0
  pub back_count : length back ≡ length paths.ways
  pub back_is : (i : ℕ) → i < length paths.ways → IsLongest paths.ways paths.steps leaves i (get_or back i 0)
