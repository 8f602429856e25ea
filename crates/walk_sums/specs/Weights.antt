-- Which weights of items parts of walks are summed by, those that count items, and the sum of positions.
use Rattle.std.specs.Prelude.{ℕ, ◌+◌, ◌≤◌, ◌≡◌, cond, map, false, List, [], ◌∷◌, length}
use Rattle.sloth_base.specs.declared.app.App.{App}
use Rattle.sloth_base.specs.declared.app.Func.{Func}
use Rattle.sloth_base.specs.declared.app.Item.{Item}
use Rattle.sloth_base.specs.Named.{operation}
use Rattle.sloth_base.specs.Limits.{size_limit}
use Rattle.osek_blocking.specs.Walks.{Position}
use Rattle.osek_blocking.specs.Sections.{is_counted}
use Rattle.bound_rules.specs.declared.bound.BodyWeights.{BodyWeights}
use Rattle.bound_rules.specs.Weights.{going_weight, ending_weight}
use Rattle.walk_sums.specs.Activations.{is_plain}

-- Weights up to the greatest size, which may be 0: an item weighs no less where a part ends with it, a call and a `ret` the same.
pub record AreWeights (app : App) (weights : List BodyWeights) : Type 0 where
  pub count : length weights ≡ length app.funcs
  pub small : (f i : ℕ) → ending_weight weights f i ≤ size_limit
  pub no_lighter : (f i : ℕ) → going_weight weights f i ≤ ending_weight weights f i
  pub same : (f i : ℕ) → is_plain (operation app f i) ≡ false → ending_weight weights f i ≡ going_weight weights f i

-- no item weighs anything where a part goes on behind it
abbrev pub AreWeightless : List BodyWeights → Type 0
AreWeightless weights = (f i : ℕ) → going_weight weights f i ≡ 0

-- none weighs more than the greatest size where a part ends with it
abbrev pub SmallEndings : List BodyWeights → Type 0
SmallEndings weights = (f i : ℕ) → ending_weight weights f i ≤ size_limit

-- ---- the number of items

-- what an item counts: TerminateTask is none that is seen
abbrev pub item_weight : Item → ℕ
item_weight item = cond (is_counted item.op) 1 0

-- of the items of a body
abbrev pub body_weights : Func → BodyWeights
body_weights f = record { going = map item_weight f.items; ending = map item_weight f.items }

-- of those of all bodies
abbrev pub item_weights : App → List BodyWeights
item_weights app = map body_weights app.funcs

-- ---- sums

-- the weight of the item at which a position stands, where a walk goes on behind it
abbrev pub going_at : (weights : List BodyWeights) → Position → ℕ
going_at weights [] = 0
going_at weights (here ∷ outer) = going_weight weights here.func here.item

-- where it ends with it
abbrev pub ending_at : (weights : List BodyWeights) → Position → ℕ
ending_at weights [] = 0
ending_at weights (here ∷ outer) = ending_weight weights here.func here.item

-- the sum of these positions, which end with the last one
abbrev pub sum_of : (weights : List BodyWeights) → List Position → ℕ
sum_of weights [] = 0
sum_of weights (at ∷ []) = ending_at weights at
sum_of weights (at ∷ next ∷ further) = going_at weights at + sum_of weights (next ∷ further)
