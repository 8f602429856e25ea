-- The weights by which items count what they take: the length of an item's expansion, and of a service its code.
use Rattle.std.specs.Prelude.{ℕ, ◌+◌, ◌<◌, ◌≡◌, List, length, get_or}
use Rattle.sloth_base.specs.declared.app.App.{App}
use Rattle.sloth_base.specs.declared.app.Func.{Func}
use Rattle.sloth_base.specs.Named.{function, item_of}
use Rattle.bound_rules.specs.declared.bound.BodyWeights.{BodyWeights}
use Rattle.bound_rules.specs.Weights.{no_weights}
use Rattle.sim_induction.specs.Items.{length_of, AreLengths, going_counts, ending_counts}

-- the counts of the items of function f, by the lengths of items
pub record AreBodyCounts (lengths : List (List ℕ)) (f : ℕ) (func : Func) (weights : BodyWeights) : Type 0 where
  pub going_count : length weights.going ≡ length func.items
  pub ending_count : length weights.ending ≡ length func.items
  pub going : (i : ℕ) → i < length func.items → get_or weights.going i 0 ≡ length_of lengths f i + going_counts (item_of func i).op
  pub ending : (i : ℕ) → i < length func.items → get_or weights.ending i 0 ≡ length_of lengths f i + ending_counts func (item_of func i).op

-- those of all functions
pub record AreCountsBy (app : App) (lengths : List (List ℕ)) (weights : List BodyWeights) : Type 0 where
  pub count : length weights ≡ length app.funcs
  pub each : (f : ℕ) → f < length app.funcs → AreBodyCounts lengths f (function app f) (get_or weights f no_weights)

-- by their lengths with the fewest long branches
abbrev pub AreCounts : App → List BodyWeights → Type 0
AreCounts app weights = (lengths : List (List ℕ)) × AreLengths app lengths × AreCountsBy app lengths weights
