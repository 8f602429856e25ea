-- The lines of the command `bounds OIL SRC counts`.
use Rattle.std.specs.Prelude.{ℕ, zero, suc, ◌+◌, ◌-◌, ◌≡◌, ◌&&◌, leb, cond, List, [], ◌++◌, codes, decimal, length, get_or}
use Rattle.sloth_base.specs.declared.config.Config.{Config}
use Rattle.sloth_base.specs.declared.config.TaskDecl.{TaskDecl}
use Rattle.sloth_base.specs.declared.app.App.{App}
use Rattle.sloth_base.specs.declared.service.Arrival.{Arrival}
use Rattle.sloth_base.specs.declared.image.Image.{Image}
use Rattle.sloth_base.specs.Owners.{owners_in}
use Rattle.sloth_base.specs.Named.{undeclared_task}
use Rattle.sloth_base.specs.Limits.{count_limit}
use Rattle.call_graph.specs.Reached.{any_below}
use Rattle.call_graph.specs.Tables.{max_below}
use Rattle.sloth_source.specs.Texts.{AreAccepted}
use Rattle.bound_rules.specs.declared.bound.BodyWeights.{BodyWeights}
use Rattle.bound_rules.specs.Weights.{no_weights}
use Rattle.bound_rules.specs.Tasks.{task_at}
use Rattle.walk_sums.specs.declared.sections.Sum.{Sum}
use Rattle.walk_sums.specs.declared.sections.Sum.TheVariants as sum
use Rattle.run_counts.specs.Counts.{AreCounts}
use Rattle.walk_sums.specs.Sections.{AreAllSums, greatest_of}
use Rattle.sim_induction.specs.Paced.{InPace}
use Rattle.sim_induction.specs.Sound.{AreComing, Sound, events_of}
use Rattle.bounds_text.specs.Bounds.{is_below}
use Rattle.bounds_text.specs.KeptRuns.{WaitsForCounts}

-- ---- counts

-- the heaviest of these items of a body, behind which their task goes on
abbrev pub heaviest_item : (going : List ℕ) → ℕ
heaviest_item going = max_below (length going) (λ i. get_or going i 0)

-- that of all bodies
abbrev pub heaviest : (weights : List BodyWeights) → ℕ
heaviest weights = max_below (length weights) (λ f. heaviest_item (get_or weights f no_weights).going)

-- a sum behind an item of this weight
abbrev pub behind_item : (weight : ℕ) → Sum → Sum
behind_item weight (sum.Counts n) = cond (leb weight count_limit && leb n (count_limit - weight)) (sum.Counts (weight + n)) sum.Huge
behind_item weight sum.Huge = sum.Huge
behind_item weight sum.Endless = sum.Endless

-- How many counts of lower tasks may stand in front of the entry of task t, by the greatest sums of their sections for it: none where it is the
-- lowest, else the greatest of these sums behind the heaviest item. That item stands for a service that was running as an arrival made t Ready.
abbrev pub lower_counts : List TaskDecl → (weight : ℕ) → List Sum → (t : ℕ) → Sum
lower_counts tasks weight sums t =
    cond (any_below (length tasks) (is_below tasks (task_at tasks t).priority)) (behind_item weight (greatest_of sums (length sums))) (sum.Counts 0)

-- ---- lines

-- a sum in counts
abbrev pub sum_text : Sum → List ℕ
sum_text (sum.Counts n) = codes " " ++ decimal n
sum_text sum.Huge = codes " huge"
sum_text sum.Endless = codes " endless"

-- the line of a task
unfoldable pub count_line : List TaskDecl → (weight : ℕ) → List (List Sum) → ℕ → List ℕ
count_line tasks weight table t = ((get_or tasks t undeclared_task).name ++ sum_text (lower_counts tasks weight (get_or table t []) t)) ++ codes "\n"

-- the lines of the first tasks, so many of them
unfoldable pub count_lines : List TaskDecl → (weight : ℕ) → List (List Sum) → ℕ → List ℕ
count_lines tasks weight table zero = []
count_lines tasks weight table (suc k) = count_lines tasks weight table k ++ count_line tasks weight table k

-- ---- what they promise of runs

-- In every run of an image whose builder promises that its runs are sound and keep the pace, from each event that makes a task of which a number is told
-- Ready up to its `enter` at most so many counts are spent on lower tasks.
abbrev pub RunsKeepCounts : Config → App → (weight : ℕ) → List (List Sum) → Type 0
RunsKeepCounts config app weight table =
    (image : Image) (arrivals : List Arrival) (n : ℕ) → Sound config app image → InPace config app image → AreComing (owners_in config) arrivals
    → (h counts : ℕ) → lower_counts config.tasks weight (get_or table h []) h ≡ sum.Counts counts → WaitsForCounts config app h counts (events_of image arrivals n)

-- these are the lines of all tasks, by the exact sums of all sections in counts, and runs keep them
pub record HasLowerCounts (config : Config) (app : App) (text : List ℕ) : Type 0 where
  pub weights : List BodyWeights
  pub are_counts : AreCounts app weights
  pub table : List (List Sum)
  pub are_sums : AreAllSums config app weights table
  pub lines : text ≡ count_lines config.tasks (heaviest weights) table (length config.tasks)
  pub kept : RunsKeepCounts config app (heaviest weights) table

-- the texts are accepted, and these are the lines of what they mean
pub record IsLowerCountsText (oil src text : List ℕ) : Type 0 where
  pub config : Config
  pub app : App
  pub accepted : AreAccepted oil src config app
  pub has_counts : HasLowerCounts config app text

-- texts have one such list of lines at most
abbrev pub OneLowerCountsText : Type 0
OneLowerCountsText = (oil src one other : List ℕ) → IsLowerCountsText oil src one → IsLowerCountsText oil src other → one ≡ other
