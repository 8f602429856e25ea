-- What is told of a task is so, from the sums of the sections of lower tasks.
use Rattle.std.proofs.Common.{◌≡◌, ℕ, suc, ◌+◌, ◌⊎◌, Bool, true, false, cond, ltb, List, [], length, refl, sym, ◌∙◌, subst, arith, ⊎_elim}
use Rattle.std.proofs.lemmas.Bool.{true≢false, ltb-true, lt-ltb}
use Rattle.sloth_base.specs.declared.config.Config.{Config}
use Rattle.sloth_base.specs.declared.app.App.{App}
use Rattle.sloth_base.specs.Limits.{count_limit}
use Rattle.code_rules.specs.WellFormed.{WellFormed}
use Rattle.osek_scheduler.specs.Apart.{static_priority}
use Rattle.osek_scheduler.proofs.Facts.{Facts, facts}
use Rattle.call_graph.specs.Reached.{any_below}
use Rattle.osek_blocking.specs.Walks.{Position}
use Rattle.osek_blocking.specs.Sections.{size_of_section, IsLower, IsSectionFor, NoneIsLarger, IsGreatestSize, IsBound, lowest, above}
use Rattle.bound_rules.specs.declared.bound.Bound.TheVariants as bound
use Rattle.walk_sums.specs.declared.sections.Sum.{Sum}
use Rattle.walk_sums.specs.declared.sections.Sum.TheVariants as sum
use Rattle.walk_sums.specs.Weights.{item_weights, sum_of}
use Rattle.walk_sums.specs.Told.{IsGreatestSum, IsToldSum, NoneIsAbove}
use Rattle.walk_sums.specs.Sections.{AreToldSums, greatest_of}
use Rattle.walk_sums.proofs.Counting.{any_is, none_is}
use Rattle.walk_sums.proofs.Greatest.{greatest_told}
use Rattle.walk_sums.proofs.ItemSums.{section_size}
use Rattle.bounds_text.specs.Bounds.{IsTold, is_below, sum_bound, blocking_bound}

module _ (config : Config) (app : App) (w : Facts config app) (h : ℕ) where
  -- the sum of a section for h is its size
  size_is : (positions : List Position) → IsSectionFor config app h positions → sum_of (item_weights app) positions ≡ size_of_section app positions
  size_is positions s = section_size config app h s.task w s.lower.0 positions s.is_section

  none_larger : (n : ℕ) → NoneIsAbove (IsSectionFor config app h) (item_weights app) n → NoneIsLarger config app h n
  none_larger n none positions s = let le = none positions s in let is = size_is positions s in omega (arith, le, is)

  -- the empty section of some lower task
  empty : (t : ℕ) → IsLower config h t → IsSectionFor config app h []
  empty t low = record { task = t; lower = low; is_section = record { before = []; of_walk = tt; raised = tt; unbroken = tt } }

  greatest_size : (t : ℕ) → IsLower config h t → (n : ℕ) → IsGreatestSum (IsSectionFor config app h) (item_weights app) n → IsGreatestSize config app h n
  greatest_size t low n g = ⊎_elim
      (λ none. record { positions = []; is_section = empty t low; size = sym none; none_larger = none_larger n g.none_above })
      (λ s.
      let reach = s.2 in
      let le = g.none_above s.0 s.1 in
      let is = size_is s.0 s.1 in
      record { positions = s.0; is_section = s.1; size = omega (arith, reach, le, is); none_larger = none_larger n g.none_above })
      g.attained

  -- what is told by a greatest sum, where some task is lower
  told_by : (t : ℕ) → IsLower config h t → (s : Sum) → IsToldSum (IsSectionFor config app h) (item_weights app) s → IsTold config app h (sum_bound s)
  told_by t low (sum.Counts n) g =
      let small = g.1 in
      let e : suc n ≡ n + 1 = omega arith in
      let items : IsTold config app h (bound.Items (n + 1)) = (subst (IsBound config app h) e (above n (greatest_size t low n g.0)), omega (arith, small)) in
      let Q : Bool → Type 0 = λ b. IsTold config app h (cond b (bound.Items (n + 1)) bound.Huge) in
      subst Q (sym (lt-ltb n count_limit small)) items
  told_by t low sum.Huge r =
      let s = r.some_reaches in
      let reach = s.2 in
      let is = size_is s.0 s.1 in
      record { positions = s.0; is_section = s.1; large = omega (arith, reach, is); most = r.most; none_larger = none_larger r.most r.none_above }
  told_by t low sum.Endless e = λ n.
      let s = e (suc n) in
      let reach = s.2 in
      let is = size_is s.0 s.1 in
      (s.0, s.1, omega (arith, reach, is))

-- some task is lower
some_lower : (config : Config) (h : ℕ) → any_below (length config.tasks) (is_below config.tasks (static_priority config h)) ≡ true → (t : ℕ) × IsLower config h t
some_lower config h e =
    let f = any_is (length config.tasks) (is_below config.tasks (static_priority config h)) e in
    (f.0, (f.1, ltb-true (static_priority config f.0) (static_priority config h) f.2))

-- none is
told_none : (config : Config) (app : App) (h : ℕ) → any_below (length config.tasks) (is_below config.tasks (static_priority config h)) ≡ false → IsTold config app h (bound.Items 0)
told_none config app h e =
    (lowest (λ t low. true≢false (sym (lt-ltb (static_priority config t) (static_priority config h) low.1) ∙ none_is (length config.tasks) (is_below config.tasks (static_priority config h)) e t low.0)), omega arith)

-- what is told of task h
pub bound_is_told : (config : Config) (app : App) (h : ℕ) (sums : List Sum) → WellFormed config app → AreToldSums config app (item_weights app) h sums
    → IsTold config app h (blocking_bound config.tasks sums h)
bound_is_told config app h sums well are = by (any_below (length config.tasks) (is_below config.tasks (static_priority config h))) refl
  where
    by : (b : Bool) → any_below (length config.tasks) (is_below config.tasks (static_priority config h)) ≡ b
        → IsTold config app h (cond b (sum_bound (greatest_of sums (length sums))) (bound.Items 0))
    by true e =
        let low = some_lower config h e in
        told_by config app (facts config app well) h low.0 low.1 (greatest_of sums (length sums)) (greatest_told config app (item_weights app) h sums are)
    by false e = told_none config app h e
