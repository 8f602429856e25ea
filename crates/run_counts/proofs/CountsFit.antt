-- The counts of items are weights by which walks are summed.
use Rattle.std.proofs.Common.{◌≡◌, ℕ, ◌+◌, ◌<◌, ◌≤◌, ◌⊎◌, inl, inr, Bool, true, false, List, length, get_or, refl, ap, sym, ◌∙◌, arith, ⊎_elim}
use Rattle.std.proofs.lemmas.Bool.{cases_lt, true≢false}
use Rattle.std.proofs.lemmas.List.{get_or_past}
use Rattle.sloth_base.specs.declared.app.App.{App}
use Rattle.sloth_base.specs.declared.app.Func.{Func}
use Rattle.sloth_base.specs.declared.app.Op.{Op}
use Rattle.sloth_base.specs.declared.app.Op.TheVariants as op
use Rattle.sloth_base.specs.declared.service.Service.{Service}
use Rattle.sloth_base.specs.declared.service.Service.TheVariants as service
use Rattle.sloth_base.specs.Named.{function, operation}
use Rattle.code_lengths.specs.LongestPaths.{leaving_path}
use Rattle.osek_blocking.specs.Walks.{chains_itself}
use Rattle.sim_induction.specs.Items.{length_of, served_counts, going_counts, ending_counts}
use Rattle.bound_rules.specs.declared.bound.BodyWeights.{BodyWeights}
use Rattle.bound_rules.specs.Weights.{no_weights, going_weight, ending_weight}
use Rattle.walk_sums.specs.Activations.{is_plain}
use Rattle.walk_sums.specs.Weights.{AreWeights}
use Rattle.run_counts.specs.Counts.{AreCountsBy}

-- ---- services

served_few : (s : Service) → served_counts s ≤ 60
served_few service.ChainTask = omega arith
served_few service.Schedule = omega arith
served_few _ = omega arith

leaving_few : (s : Service) (itself : Bool) → leaving_path s itself ≤ 86
leaving_few service.ChainTask true = omega arith
leaving_few service.ChainTask false = omega arith
leaving_few service.TerminateTask itself = omega arith
leaving_few service.WaitEvent itself = omega arith
leaving_few _ itself = omega arith

ending_few : (f : Func) (o : Op) → ending_counts f o ≤ 86
ending_few f (op.Serve call) =
    let going = served_few call.service in
    let leaving = leaving_few call.service (chains_itself f (op.Serve call)) in
    omega (arith, going, leaving)
ending_few f _ = omega arith

plain_or_same : (f : Func) (o : Op) → is_plain o ≡ false → ending_counts f o ≡ going_counts o
plain_or_same f (op.Invoke g) e = refl
plain_or_same f op.Return e = refl
plain_or_same f _ e = absurd (true≢false e)

-- ---- weights

module _ (app : App) (lengths : List (List ℕ)) (short : (f i : ℕ) → length_of lengths f i ≤ 36)
    (weights : List BodyWeights) (by : AreCountsBy app lengths weights) where
  -- an item weighs its counts, all else nothing
  data Weighs (f i : ℕ) : Type 0 where
    weighs_counts : f < length app.funcs → i < length (function app f).items → going_weight weights f i ≡ length_of lengths f i + going_counts (operation app f i)
        → ending_weight weights f i ≡ length_of lengths f i + ending_counts (function app f) (operation app f i) → Weighs f i
    weighs_nothing : going_weight weights f i ≡ 0 → ending_weight weights f i ≡ 0 → Weighs f i

  weight_is : (f i : ℕ) → Weighs f i
  weight_is f i = at (cases_lt f (length app.funcs))
    where
      at : (f < length app.funcs) ⊎ (length app.funcs ≤ f) → Weighs f i
      at (inl known) =
          let b = by.each f known in
          let g = b.going_count in
          let e = b.ending_count in
          ⊎_elim
          (λ inside. weighs_counts known inside (b.going i inside) (b.ending i inside))
          (λ le.
          weighs_nothing
          (get_or_past (get_or weights f no_weights).going i 0 (omega (arith, le, g)))
          (get_or_past (get_or weights f no_weights).ending i 0 (omega (arith, le, e))))
          (cases_lt i (length (function app f).items))
      at (inr le) =
          let c = by.count in
          let none = get_or_past weights f no_weights (omega (arith, le, c)) in
          weighs_nothing (ap (λ (b : BodyWeights). get_or b.going i 0) none) (ap (λ (b : BodyWeights). get_or b.ending i 0) none)

  small : (f i : ℕ) → Weighs f i → ending_weight weights f i ≤ 122
  small f i (weighs_counts known inside going ending) =
      let few = ending_few (function app f) (operation app f i) in
      let length = short f i in
      omega (arith, few, length, ending)
  small f i (weighs_nothing going ending) = omega (arith, ending)

  no_lighter : (f i : ℕ) → Weighs f i → going_weight weights f i ≤ ending_weight weights f i
  no_lighter f i (weighs_counts known inside going ending) = omega (arith, going, ending)
  no_lighter f i (weighs_nothing going ending) = omega (arith, going)

  same : (f i : ℕ) → is_plain (operation app f i) ≡ false → Weighs f i → ending_weight weights f i ≡ going_weight weights f i
  same f i call (weighs_counts known inside going ending) =
      ending ∙ ap (λ n. length_of lengths f i + n) (plain_or_same (function app f) (operation app f i) call) ∙ sym going
  same f i call (weighs_nothing going ending) = ending ∙ sym going

  pub counts_fit : AreWeights app weights
  counts_fit = record {
    count = by.count;
    small = λ f i. let le = small f i (weight_is f i) in omega (arith, le);
    no_lighter = λ f i. no_lighter f i (weight_is f i);
    same = λ f i call. same f i call (weight_is f i);
  }
