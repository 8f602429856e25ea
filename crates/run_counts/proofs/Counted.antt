-- The counts of items are weights of them.
use Rattle.std.proofs.Common.{◌≡◌, ℕ, ◌<◌, ◌≤◌, List, length, ap, arith, ⊎_elim}
use Rattle.std.proofs.lemmas.Bool.{cases_lt}
use Rattle.std.proofs.lemmas.List.{get_or_past}
use Rattle.sloth_base.specs.Named.{function, no_function}
use Rattle.sloth_base.specs.declared.app.App.{App}
use Rattle.sloth_base.specs.declared.app.Func.{Func}
use Rattle.bound_rules.specs.declared.bound.BodyWeights.{BodyWeights}
use Rattle.sim_induction.specs.Items.{length_of, AreLengths}
use Rattle.run_counts.specs.Counts.{AreCountsBy}
use Rattle.run_counts.proofs.CountsFit.{counts_fit}
use Rattle.run_counts.specs.Spending.{WeighsItems}
use Rattle.run_counts.specs.Rounds.{WeighsEndings}

pub counts_weigh : (app : App) (lengths : List (List ℕ)) → AreLengths app lengths → ((f i : ℕ) → length_of lengths f i ≤ 36) → (weights : List BodyWeights) → AreCountsBy app lengths weights
    → WeighsItems app (length_of lengths) weights
counts_weigh app lengths are short weights by = record {
  item = λ f i inside.
      ⊎_elim
      (λ (known : f < length app.funcs). let is = (by.each f known).going i inside in omega (arith, is))
      (λ (past : length app.funcs ≤ f).
      let none : length (function app f).items ≡ 0 = ap (λ (g : Func). length g.items) (get_or_past app.funcs f no_function past) in
      absurd (omega (arith, none, inside)))
      (cases_lt f (length app.funcs));
  no_lighter = (counts_fit app lengths short weights by).no_lighter;
}

pub counts_end : (app : App) (lengths : List (List ℕ)) (weights : List BodyWeights) → AreCountsBy app lengths weights → WeighsEndings app (length_of lengths) weights
counts_end app lengths weights by = record {
  item = λ f i inside.
      ⊎_elim
      (λ (known : f < length app.funcs). let is = (by.each f known).ending i inside in omega (arith, is))
      (λ (past : length app.funcs ≤ f).
      let none : length (function app f).items ≡ 0 = ap (λ (g : Func). length g.items) (get_or_past app.funcs f no_function past) in
      absurd (omega (arith, none, inside)))
      (cases_lt f (length app.funcs));
}
