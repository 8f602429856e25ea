-- Where greatest sections begin in the source text.
use Rattle.std.specs.Prelude.{ℕ, ◌<◌, ◌≡◌, leb, Bool, true, List, length, get_or}
use Rattle.sloth_base.specs.declared.config.Config.{Config}
use Rattle.sloth_base.specs.declared.app.App.{App}
use Rattle.sloth_base.specs.declared.app.Func.{Func}
use Rattle.sloth_base.specs.declared.app.Item.{Item}
use Rattle.sloth_base.specs.Named.{no_function, no_item}
use Rattle.call_graph.specs.Tables.{max_below}
use Rattle.osek_blocking.specs.Walks.{Position}
use Rattle.osek_blocking.specs.Sections.{IsSection}
use Rattle.bound_rules.specs.declared.bound.BodyWeights.{BodyWeights}
use Rattle.walk_sums.specs.declared.sections.Sum.{Sum}
use Rattle.walk_sums.specs.declared.sections.Sum.TheVariants as sum
use Rattle.walk_sums.specs.Early.{BeginsAt, IsEarlySection}
use Rattle.walk_sums.specs.Weights.{sum_of}
use Rattle.response_reasons.specs.declared.early.LineRange.{LineRange}

-- a section of task t for h that begins at an item of this source line weighs n
abbrev pub BeginsSection : Config → App → (weights : List BodyWeights) → (h t n line : ℕ) → Type 0
BeginsSection config app weights h t n line =
    (positions : List Position) × IsSection config app h t positions × BeginsAt app line positions × (sum_of weights positions ≡ n)

-- one that begins there or at a lesser line weighs n
abbrev pub BeginsEarly : Config → App → (weights : List BodyWeights) → (h t n line : ℕ) → Type 0
BeginsEarly config app weights h t n line = (positions : List Position) × IsEarlySection config app h t line positions × (sum_of weights positions ≡ n)

-- ---- how it is found

-- the greatest source line of these items
abbrev pub last_item_line : List Item → ℕ
last_item_line items = max_below (length items) (λ i. (get_or items i no_item).line)

-- of those of functions
abbrev pub last_line : List Func → ℕ
last_line funcs = max_below (length funcs) (λ f. last_item_line (get_or funcs f no_function).items)

-- Whether some sum is n, where this is told of the greatest one, and none of all lines is greater than n.
abbrev pub is_reached : Sum → (n : ℕ) → Bool
is_reached (sum.Counts greatest) n = leb n greatest
is_reached sum.Huge n = true
is_reached sum.Endless n = true

-- such a section begins at none of the lines in front of these, and one up to the last of them
pub record IsAround (config : Config) (app : App) (weights : List BodyWeights) (h t n : ℕ) (range : LineRange) : Type 0 where
  pub none_before : (line : ℕ) → line < range.least → BeginsEarly config app weights h t n line → ⊥
  pub some : BeginsEarly config app weights h t n range.most
