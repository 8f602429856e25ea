-- By the weights that count items the sum of a section is its size.
use Rattle.std.proofs.Common.{◌≡◌, ℕ, ◌+◌, ◌<◌, cond, List, [], ◌∷◌, length, refl, ap, ◌∙◌, arith}
use Rattle.sloth_base.specs.declared.config.Config.{Config}
use Rattle.sloth_base.specs.declared.app.App.{App}
use Rattle.sloth_base.specs.Named.{operation}
use Rattle.osek_scheduler.proofs.Facts.{Facts}
use Rattle.osek_blocking.specs.Walks.{Position, AreConsecutive}
use Rattle.osek_blocking.specs.Sections.{is_counted, IsSection, size_of_section}
use Rattle.walk_sums.specs.Weights.{item_weights, sum_of}
use Rattle.walk_sums.proofs.ItemWeights.{going_is, ending_is}
use Rattle.walk_sums.proofs.Callers.{Walked, stands_on, item_at, walked_to}

module _ (config : Config) (app : App) (h t : ℕ) (w : Facts config app) where
  summed : (at : Position) (further : List Position) → AreConsecutive app (at ∷ further) → Walked app t at → sum_of (item_weights app) (at ∷ further) ≡ size_of_section app (at ∷ further)
  summed [] further c s = absurd s
  summed (here ∷ outer) [] c s =
      let e =
      ending_is app here.func here.item (operation app here.func here.item)
      (item_at config app w here.func here.item s.0 s.1) in
      e ∙ omega arith
  summed (here ∷ outer) (next ∷ further) c s =
      let rest =
      summed next further c.1 (stands_on config app w t (here ∷ outer) next s c.0) in
      let e =
      going_is app here.func here.item (operation app here.func here.item)
      (item_at config app w here.func here.item s.0 s.1) in
      ap (λ v. v + sum_of (item_weights app) (next ∷ further)) e ∙ ap (λ v. cond (is_counted (operation app here.func here.item)) 1 0 + v) rest

  pub section_size : t < length config.tasks → (positions : List Position) → IsSection config app h t positions
      → sum_of (item_weights app) positions ≡ size_of_section app positions
  section_size declared [] is = refl
  section_size declared (at ∷ further) is =
      let found =
      walked_to config app w t declared is.before at further is.of_walk in
      summed at further found.1 found.0
