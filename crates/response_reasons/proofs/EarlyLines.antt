-- Lines up to which a greatest section begins.
use Rattle.std.proofs.Common.{◌≡◌, ℕ, ◌+◌, ◌<◌, ◌≤◌, ◌⊎◌, inl, inr, leb, List, [], ◌∷◌, ◌++◌, length, get_or, Some, refl, ap, subst, arith, ⊎_elim}
use Rattle.std.specs.Prelude.{Decides}
use Rattle.std.proofs.lemmas.Bool.{cases_lt, leb-true, le-leb}
use Rattle.std.proofs.Math.ListN.{get_or-eq_default}
use Rattle.sloth_base.specs.declared.config.Config.{Config}
use Rattle.sloth_base.specs.declared.app.App.{App}
use Rattle.sloth_base.specs.declared.app.Func.{Func}
use Rattle.sloth_base.specs.declared.app.Item.{Item}
use Rattle.sloth_base.specs.Named.{function, item_of, no_function, no_item}
use Rattle.sloth_base.specs.Limits.{count_limit}
use Rattle.stack_bounds.proofs.Below.{max_below-at}
use Rattle.osek_blocking.specs.Walks.{Position, IsWalk, AreConsecutive}
use Rattle.osek_blocking.specs.Sections.{IsSection}
use Rattle.bound_rules.specs.declared.bound.BodyWeights.{BodyWeights}
use Rattle.run_windows.specs.RunWindows.{IsLeastOf}
use Rattle.walk_sums.specs.declared.sections.Sum.{Sum}
use Rattle.walk_sums.specs.declared.sections.Sum.TheVariants as sum
use Rattle.walk_sums.specs.Early.{BeginsAt, IsEarlySection, IsToldEarly}
use Rattle.walk_sums.specs.Told.{IsToldSum, IsGreatestSum, SomeReaches}
use Rattle.walk_sums.specs.Weights.{sum_of}
use Rattle.response_reasons.specs.declared.early.LineRange.{LineRange}
use Rattle.response_reasons.specs.EarlySections.{BeginsSection, BeginsEarly, last_item_line, last_line, is_reached, IsAround}

-- ---- the last line

item_line_last : (items : List Item) (i : ℕ) → (get_or items i no_item).line ≤ last_item_line items
item_line_last items i = ⊎_elim
    (λ lt. max_below-at (length items) (λ i. (get_or items i no_item).line) i lt)
    (λ le. let none : (get_or items i no_item).line ≡ 0 = ap (λ (v : Item). v.line) (get_or-eq_default items no_item le) in omega (arith, none))
    (cases_lt i (length items))

function_line_last : (funcs : List Func) (f : ℕ) → last_item_line (get_or funcs f no_function).items ≤ last_line funcs
function_line_last funcs f = ⊎_elim
    (λ lt. max_below-at (length funcs) (λ f. last_item_line (get_or funcs f no_function).items) f lt)
    (λ le.
    let none : last_item_line (get_or funcs f no_function).items ≡ 0 = ap (λ (v : Func). last_item_line v.items) (get_or-eq_default funcs no_function le) in
    omega (arith, none))
    (cases_lt f (length funcs))

line_last : (app : App) (f i : ℕ) → (item_of (function app f) i).line ≤ last_line app.funcs
line_last app f i =
    let one = item_line_last (function app f).items i in
    let all = function_line_last app.funcs f in
    omega (arith, one, all)

-- ---- where positions begin

consecutive_behind : (app : App) (before further : List Position) → AreConsecutive app (before ++ further) → AreConsecutive app further
consecutive_behind app [] further c = c
consecutive_behind app (at ∷ before) further c = consecutive_behind app before further c.1

-- a walk goes on from no position at which no function stands
nowhere : (app : App) (t : ℕ) (before further : List Position) (next : Position) → IsWalk app t (before ++ [] ∷ next ∷ further) → ⊥
nowhere app t [] further next w = w.1.0
nowhere app t (at ∷ before) further next w = (consecutive_behind app (at ∷ before) ([] ∷ next ∷ further) w.1).0

-- positions of a walk that weigh something begin at a line
begins : (app : App) (t : ℕ) (weights : List BodyWeights) (before positions : List Position) → IsWalk app t (before ++ positions) → 0 < sum_of weights positions
    → (l : ℕ) × BeginsAt app l positions × (l ≤ last_line app.funcs)
begins app t weights before [] w lt = absurd (let none : ⊥ = omega (arith, lt) in none)
begins app t weights before ([] ∷ []) w lt = absurd (let none : ⊥ = omega (arith, lt) in none)
begins app t weights before ([] ∷ next ∷ further) w lt = absurd (nowhere app t before further next w)
begins app t weights before ((here ∷ outer) ∷ further) w lt = ((item_of (function app here.func) here.item).line, refl, line_last app here.func here.item)

-- ---- what is told up to a line

module _ (config : Config) (app : App) (weights : List BodyWeights) (h t n : ℕ) (told : IsToldSum (IsSection config app h t) weights (sum.Counts n)) (some : 0 < n) where
  abbrev Early : (line : ℕ) → Type 0
  Early line = BeginsEarly config app weights h t n line

  -- a section with as great a sum has this one
  reaches_same : (line : ℕ) (m : ℕ) → n ≤ m → SomeReaches (IsEarlySection config app h t line) weights m → Early line
  reaches_same line m le s =
      let most = told.0.none_above s.0 s.1.0 in
      let reached = s.2 in
      (s.0, s.1, omega (arith, le, most, reached))

  counted : (line greatest : ℕ) → IsGreatestSum (IsEarlySection config app h t line) weights greatest → Decides (leb n greatest) (Early line)
  counted line greatest is = ((λ e. here (leb-true n greatest e) is.attained), (λ b. le-leb n greatest (above b)))
    where
      here : n ≤ greatest → (greatest ≡ 0) ⊎ SomeReaches (IsEarlySection config app h t line) weights greatest → Early line
      here le (inl none) = absurd (let wrong : ⊥ = omega (arith, le, none, some) in wrong)
      here le (inr reaches) = reaches_same line greatest le reaches

      above : Early line → n ≤ greatest
      above b = let most = is.none_above b.0 b.1 in let e = b.2 in omega (arith, most, e)

  pub early_decided : (line : ℕ) (s : Sum) → IsToldEarly config app weights h t line s → Decides (is_reached s n) (Early line)
  early_decided line (sum.Counts greatest) is = counted line greatest is.0
  early_decided line sum.Huge is = ((λ e. reaches_same line count_limit (let few = told.1 in omega (arith, few)) is.some_reaches), (λ b. refl))
  early_decided line sum.Endless is = ((λ e. none (is (n + 1))), (λ b. refl))
    where
      none : SomeReaches (IsSection config app h t) weights (n + 1) → Early line
      none s =
          let most = told.0.none_above s.0 s.1 in
          let reached = s.2 in
          absurd (let wrong : ⊥ = omega (arith, most, reached) in wrong)

  -- ---- halves

  early_later : (l m : ℕ) → l ≤ m → Early l → Early m
  early_later l m le b = let lt = b.1.1.2 in (b.0, (b.1.0, (b.1.1.0, b.1.1.1, omega (arith, lt, le))), b.2)

  abbrev Around : LineRange → Type 0
  Around range = IsAround config app weights h t n range

  pub all_around : Around (record { least = 0; most = last_line app.funcs })
  all_around = record { none_before = λ line lt b. omega (arith, lt); some = by told.0.attained }
    where
      by : (n ≡ 0) ⊎ SomeReaches (IsSection config app h t) weights n → Early (last_line app.funcs)
      by (inl none) = absurd (let wrong : ⊥ = omega (arith, none, some) in wrong)
      by (inr (positions, is, reached)) =
          let most = told.0.none_above positions is in
          let line = begins app t weights is.before positions is.of_walk (omega (arith, some, reached)) in
          (positions, (is, line), omega (arith, most, reached))

  pub lesser_half : (range : LineRange) (line : ℕ) → Around range → Early line → Around (record { least = range.least; most = line })
  lesser_half range line around b = record { none_before = around.none_before; some = b }

  pub later_half : (range : LineRange) (line : ℕ) → Around range → (Early line → ⊥) → Around (record { least = line + 1; most = range.most })
  later_half range line around none = record { none_before = λ l lt b. none (early_later l line (omega (arith, lt)) b); some = around.some }

  -- where no line is left
  pub least_found : (range : LineRange) → range.most ≤ range.least → Around range → IsLeastOf (BeginsSection config app weights h t n) (Some range.least)
  least_found range le around = (first, λ m b. not_before m (early_at m b))
    where
      early_at : (m : ℕ) → BeginsSection config app weights h t n m → Early m
      early_at m b = (b.0, (b.1, (m, b.2, omega arith)), b.3)

      not_before : (m : ℕ) → Early m → range.least ≤ m
      not_before m b = ⊎_elim (λ lt. absurd (around.none_before m lt b)) (λ more. more) (cases_lt m range.least)

      first : BeginsSection config app weights h t n range.least
      first =
          let b = around.some in
          let line = b.1.1.0 in
          let up = b.1.1.2 in
          let down = not_before line (b.0, (b.1.0, (line, b.1.1.1, omega arith)), b.2) in
          let same : line ≡ range.least = omega (arith, up, down, le) in
          (b.0, b.1.0, subst (λ l. BeginsAt app l b.0) same b.1.1.1, b.2)
