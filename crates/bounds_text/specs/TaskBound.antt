-- What the command `why` tells of one task: its bound, and of what that is made.
use Rattle.std.specs.Prelude.{ℕ, ◌<◌, ◌≡◌, List, [], ◌∷◌, ◌++◌, get_or, codes, decimal, Option, Some, None}
use Rattle.sloth_base.specs.declared.config.Config.{Config}
use Rattle.sloth_base.specs.declared.app.App.{App}
use Rattle.sloth_base.specs.Named.{function, item_of, declaration}
use Rattle.sloth_source.specs.Texts.{AreAccepted}
use Rattle.sloth_source.specs.TaskNames.{task_named}
use Rattle.bound_rules.specs.declared.bound.Bound.{Bound}
use Rattle.bound_rules.specs.declared.bound.Bound.TheVariants as bound
use Rattle.bounds_text.specs.Bounds.{AreToldBounds}
use Rattle.bounds_text.specs.BoundsText.{bound_line}
use Rattle.walk_sums.specs.declared.standing.Point.{Point}
use Rattle.section_ways.specs.declared.ways.Way.{Way}
use Rattle.section_ways.specs.ShownWays.{IsShown}

-- ---- lines

-- the line of an item
abbrev pub point_word : App → Point → List ℕ
point_word app p = codes " " ++ decimal (item_of (function app p.func) p.item).line

abbrev pub point_words : App → List Point → List ℕ
point_words app [] = []
point_words app (p ∷ points) = point_word app p ++ point_words app points

-- the line of the lower task
abbrev pub task_line : Config → ℕ → List ℕ
task_line config t = (codes "task " ++ (declaration config t).name) ++ codes "\n"

-- with the lines of a way behind a word
abbrev pub way_lines : Config → App → (word : List ℕ) → Way → List ℕ
way_lines config app word way = ((task_line config way.task ++ word) ++ point_words app way.points) ++ codes "\n"

abbrev pub shown_lines : Config → App → (word : List ℕ) → Option Way → List ℕ
shown_lines config app word None = []
shown_lines config app word (Some way) = way_lines config app word way

-- the word in front of a way
abbrev pub way_word : Bound → List ℕ
way_word bound.Endless = codes "cycle"
way_word _ = codes "way"

-- ---- what is told

-- these are the lines of the bound of task h and of what it is made
pub record HasBoundLines (config : Config) (app : App) (h : ℕ) (text : List ℕ) : Type 0 where
  pub bounds : List Bound
  pub are_bounds : AreToldBounds config app bounds
  pub way : Option Way
  pub is_way : IsShown config app h (get_or bounds h bound.Endless) way
  pub lines : text ≡ bound_line config.tasks bounds h ++ shown_lines config app (way_word (get_or bounds h bound.Endless)) way

-- they are told of the task, if there is one
abbrev pub HasLinesOf : Config → App → (task : Option ℕ) → Option (List ℕ) → Type 0
HasLinesOf config app (Some t) (Some text) = HasBoundLines config app t text
HasLinesOf config app (Some t) None = ⊥
HasLinesOf config app None (Some text) = ⊥
HasLinesOf config app None None = Unit {0}

-- the texts are accepted, and these lines are told of the task of this name; none where no task has it
pub record IsBoundText (oil src name : List ℕ) (text : Option (List ℕ)) : Type 0 where
  pub config : Config
  pub app : App
  pub accepted : AreAccepted oil src config app
  pub has : HasLinesOf config app (task_named config name) text
