-- Runs keep the counts that are told of lower tasks.
use Rattle.std.proofs.Common.{◌≡◌, ◌∙◌, ℕ, zero, suc, ◌+◌, ◌-◌, ◌<◌, ◌≤◌, ◌⊎◌, ◌&&◌, leb, List, [], ◌∷◌, ◌++◌, length, get_or, Bool, true, false, cond, refl, sym, ap, subst, arith, inl, inr}
use Rattle.std.proofs.lemmas.Bool.{cases_Bool, cases_lt, false≢true, lt-ltb}
use Rattle.std.proofs.lemmas.List.{get_or_past}
use Rattle.sloth_base.specs.declared.config.Config.{Config}
use Rattle.sloth_base.specs.declared.app.App.{App}
use Rattle.sloth_base.specs.Limits.{count_limit}
use Rattle.code_rules.specs.WellFormed.{WellFormed}
use Rattle.call_graph.specs.Reached.{any_below}
use Rattle.call_graph.specs.Tables.{max_below}
use Rattle.call_graph.proofs.Itself.{number_counts}
use Rattle.osek_blocking.specs.Blocking.{events_up_to_entry}
use Rattle.osek_blocking.specs.Pace.{last_count}
use Rattle.osek_blocking.specs.Sections.{IsSectionFor}
use Rattle.osek_blocking.specs.Spent.{spent_counts}
use Rattle.bound_rules.specs.declared.bound.BodyWeights.{BodyWeights}
use Rattle.bound_rules.specs.Weights.{no_weights, going_weight, ending_weight}
use Rattle.bound_rules.specs.Tasks.{task_at}
use Rattle.sim_induction.specs.Items.{length_of}
use Rattle.sim_induction.proofs.BodyLengths.{short}
use Rattle.walk_sums.specs.declared.sections.Sum.{Sum}
use Rattle.walk_sums.specs.declared.sections.Sum.TheVariants as sum
use Rattle.run_counts.specs.Counts.{AreCounts}
use Rattle.walk_sums.specs.Told.{IsToldSum}
use Rattle.walk_sums.specs.Sections.{AreToldSums, AreAllSums, greatest_of}
use Rattle.walk_sums.proofs.Greatest.{greatest_told}
use Rattle.sim_induction.specs.Sound.{events_of}
use Rattle.bounds_text.specs.Bounds.{is_below}
use Rattle.run_counts.specs.Spending.{NoSumIsAbove, NoneIsLower}
use Rattle.run_counts.proofs.Counted.{counts_weigh}
use Rattle.run_counts.proofs.Spending.{spends_on_lower, spends_nothing}
use Rattle.bounds_text.specs.Latency.{heaviest_ending, longest_item}
use Rattle.bounds_text.specs.LowerCounts.{heaviest_item, heaviest, behind_item, lower_counts, count_lines, RunsKeepCounts, HasLowerCounts}

-- ---- the heaviest item

pub at_most_greatest : (n : ℕ) (size : ℕ → ℕ) (i : ℕ) → i < n → size i ≤ max_below n size
at_most_greatest zero size i lt = absurd (omega (arith, lt))
at_most_greatest (suc n) size i lt = by (cases_lt i n) (at_most_greatest n size i)
  where
    by : (i < n) ⊎ (n ≤ i) → (i < n → size i ≤ max_below n size) → size i ≤ max_below (suc n) size
    by (inl before) rest = let le = rest before in omega (arith, le)
    by (inr last) rest =
        let same : size i ≡ size n = ap size (omega (arith, last, lt)) in
        omega (arith, same)

-- of a table of rows of numbers none is above the greatest
none_above : (A : Type 0) (row : A → List ℕ) (d : A) (rows : List A) → row d ≡ [] → (f i : ℕ) → get_or (row (get_or rows f d)) i 0 ≤ max_below (length rows) (λ g. heaviest_item (row (get_or rows g d)))
none_above A row d rows empty f i = by (cases_lt f (length rows)) (cases_lt i (length (row (get_or rows f d))))
  where
    by : (f < length rows) ⊎ (length rows ≤ f) → (i < length (row (get_or rows f d))) ⊎ (length (row (get_or rows f d)) ≤ i)
        → get_or (row (get_or rows f d)) i 0 ≤ max_below (length rows) (λ g. heaviest_item (row (get_or rows g d)))
    by (inl known) (inl inside) =
        let item = at_most_greatest (length (row (get_or rows f d))) (λ j. get_or (row (get_or rows f d)) j 0) i inside in
        let body = at_most_greatest (length rows) (λ g. heaviest_item (row (get_or rows g d))) f known in
        omega (arith, item, body)
    by (inl known) (inr past) = let none = get_or_past (row (get_or rows f d)) i 0 past in omega (arith, none)
    by (inr past) inside =
        let none : get_or (row (get_or rows f d)) i 0 ≡ 0 =
        ap (λ (x : A). get_or (row x) i 0) (get_or_past rows f d past) ∙ ap (λ (r : List ℕ). get_or r i 0) empty in
        omega (arith, none)

pub none_heavier : (weights : List BodyWeights) (f i : ℕ) → going_weight weights f i ≤ heaviest weights
none_heavier weights f i = none_above BodyWeights (λ body. body.going) no_weights weights refl f i

pub none_ends_heavier : (weights : List BodyWeights) (f i : ℕ) → ending_weight weights f i ≤ heaviest_ending weights
none_ends_heavier weights f i = none_above BodyWeights (λ body. body.ending) no_weights weights refl f i

pub none_longer : (lengths : List (List ℕ)) (f i : ℕ) → length_of lengths f i ≤ longest_item lengths
none_longer lengths f i = none_above (List ℕ) (λ row. row) [] lengths refl f i

-- ---- the greatest sum

-- a sum as a number; 0 where it is none
abbrev counts_of : Sum → ℕ
counts_of (sum.Counts n) = n
counts_of sum.Huge = 0
counts_of sum.Endless = 0

-- a sum behind an item is a number where the sum is one, and this is both
behind_counts : (weight counts : ℕ) (greatest : Sum) → behind_item weight greatest ≡ sum.Counts counts → (most : ℕ) × (greatest ≡ sum.Counts most) × (weight + most ≡ counts)
behind_counts weight counts (sum.Counts most) is = (most, refl, by (leb weight count_limit && leb most (count_limit - weight)) is)
  where
    by : (small : Bool) → cond small (sum.Counts (weight + most)) sum.Huge ≡ sum.Counts counts → weight + most ≡ counts
    by true e = ap counts_of e
    by false e = absurd cc
behind_counts weight counts sum.Huge is = absurd cc
behind_counts weight counts sum.Endless is = absurd cc

-- ---- lower tasks

pub none_below : (config : Config) (h : ℕ) → any_below (length config.tasks) (is_below config.tasks (task_at config.tasks h).priority) ≡ false → NoneIsLower config h
none_below config h none k lower =
    false≢true (sym none ∙ number_counts (is_below config.tasks (task_at config.tasks h).priority) (length config.tasks) k lower.0 (lt-ltb _ _ lower.1))

-- ---- the laws

-- where some task is lower, and a number is told, it is the heaviest item and what no section of a lower task is above
pub sums_within : (config : Config) (app : App) (weights : List BodyWeights) (sums : List Sum) (h counts : ℕ) → AreToldSums config app weights h sums
    → any_below (length config.tasks) (is_below config.tasks (task_at config.tasks h).priority) ≡ true
    → lower_counts config.tasks (heaviest weights) sums h ≡ sum.Counts counts
    → (most : ℕ) × NoSumIsAbove config app weights h most × (heaviest weights + most ≡ counts)
sums_within config app weights sums h counts are some told =
    let behind_is : behind_item (heaviest weights) (greatest_of sums (length sums)) ≡ sum.Counts counts =
    sym (ap (λ b. cond b (behind_item (heaviest weights) (greatest_of sums (length sums))) (sum.Counts 0)) some) ∙ told in
    let most = behind_counts (heaviest weights) counts (greatest_of sums (length sums)) behind_is in (
      most.0,
      (λ k lower positions section.
          let told_sum = subst (IsToldSum (IsSectionFor config app h) weights) most.1 (greatest_told config app weights h sums are) in
          told_sum.0.none_above positions (record { task = k; lower = lower; is_section = section })),
      most.2,
    )

pub runs-keep-counts : (config : Config) (app : App) (weights : List BodyWeights) (table : List (List Sum)) → WellFormed config app → AreCounts app weights
    → AreAllSums config app weights table → RunsKeepCounts config app (heaviest weights) table
runs-keep-counts config app weights table code counts are image arrivals n sound pace come h limit told before behind made found s is leads makes =
    by (cases_Bool (any_below (length config.tasks) (is_below config.tasks (task_at config.tasks h).priority)))
  where
    by : (any_below (length config.tasks) (is_below config.tasks (task_at config.tasks h).priority) ≡ true)
        ⊎ (any_below (length config.tasks) (is_below config.tasks (task_at config.tasks h).priority) ≡ false)
        → spent_counts config h (last_count 0 (before ++ made ∷ [])) (events_up_to_entry h behind) ≤ limit
    by (inl some) =
        let sums = sums_within config app weights (get_or table h []) h limit (are.each h makes.declared) some told in
        let run = sound.each arrivals n come in
        let lengths = counts.0 in
        let items_short = short app (config, code.in_range) lengths counts.1 in
        let keeps = (pace.paced lengths counts.1).each arrivals n 36 come items_short in
        let spends = spends_on_lower config app (length_of lengths) 36 n (heaviest weights) weights (events_of image arrivals n) code run.osek keeps
        (counts_weigh app lengths counts.1 items_short weights counts.2) (none_heavier weights) before behind made h sums.0 found s is leads makes sums.1 in
        let sum_is = sums.2 in
        omega (arith, spends, sum_is)
    by (inr none) =
        let run = sound.each arrivals n come in
        let nothing = spends_nothing config app (events_of image arrivals n) code run.osek before behind made h found s is leads makes (none_below config h none) in
        omega (arith, nothing)

pub has_counts : (config : Config) (app : App) (weights : List BodyWeights) (table : List (List Sum)) (text : List ℕ) → WellFormed config app → AreCounts app weights
    → AreAllSums config app weights table → text ≡ count_lines config.tasks (heaviest weights) table (length config.tasks) → HasLowerCounts config app text
has_counts config app weights table text code counts are lines = record {
  weights = weights;
  are_counts = counts;
  table = table;
  are_sums = are;
  lines = lines;
  kept = runs-keep-counts config app weights table code counts are;
}
