-- Runs keep the latency that is told, and the counts of ticks.
use Rattle.std.proofs.Common.{◌≡◌, ◌∙◌, ℕ, ◌+◌, ◌<◌, ◌≤◌, ◌⊎◌, List, [], ◌∷◌, ◌++◌, Bool, true, false, cond, max, length, get_or, Option, Some, None, refl, sym, ap, arith, inl, inr, append_assoc}
use Rattle.std.specs.List.{AllByRecursion}
use Rattle.std.proofs.lemmas.Bool.{cases_Bool}
use Rattle.sloth_base.specs.declared.config.Config.{Config}
use Rattle.sloth_base.specs.declared.app.App.{App}
use Rattle.sloth_base.specs.declared.service.Stamped.{Stamped}
use Rattle.sloth_base.specs.Named.{declaration, function, body_of}
use Rattle.code_rules.specs.WellFormed.{WellFormed}
use Rattle.call_graph.specs.Reached.{any_below}
use Rattle.code_lengths.specs.LongestPaths.{entry_path, tick_path}
use Rattle.osek_scheduler.specs.State.{System, opening}
use Rattle.osek_scheduler.specs.Runs.{AreStepsTo}
use Rattle.osek_scheduler.proofs.Facts.{facts}
use Rattle.osek_scheduler.proofs.Leading.{follows_leads, leads-append}
use Rattle.bound_rules.specs.declared.bound.Bound.{Bound}
use Rattle.bound_rules.specs.declared.bound.BodyWeights.{BodyWeights}
use Rattle.bound_rules.specs.Tasks.{task_at}
use Rattle.bound_rules.specs.Weights.{ending_weight}
use Rattle.sim_induction.specs.Events.{enter_counts, stretch_counts}
use Rattle.sim_induction.specs.Items.{length_of, AreLengths}
use Rattle.sim_induction.proofs.BodyLengths.{short}
use Rattle.walk_sums.specs.declared.sections.Sum.{Sum}
use Rattle.walk_sums.specs.declared.sections.Sum.TheVariants as sum
use Rattle.run_counts.specs.Counts.{AreCountsBy}
use Rattle.walk_sums.specs.Sections.{AreAllSums}
use Rattle.sim_induction.specs.Paced.{AreStretchesWithin}
use Rattle.sim_induction.specs.Sound.{events_of}
use Rattle.sim_induction.specs.Weighed.{AreWithinWeights}
use Rattle.run_counts.specs.Latency.{TakesWithin}
use Rattle.run_counts.specs.Spending.{NoneIsLower}
use Rattle.run_counts.proofs.Counted.{counts_weigh, counts_end}
use Rattle.run_counts.proofs.Entered.{enters_by_weights}
use Rattle.run_counts.proofs.Stretches.{stretches_within}
use Rattle.bounds_text.specs.Bounds.{AreToldBounds, is_below}
use Rattle.bounds_text.specs.Stretches.{running_counts}
use Rattle.bounds_text.specs.BoundsText.{bound_lines}
use Rattle.bounds_text.specs.Latency.{IsHighestTask, heaviest_ending, longest_item, taken_counts, lower_sum, tick_lines, last_line, RunsKeepLatency, IsShortTick, RunsKeepTicks, HasLatency}
use Rattle.bounds_text.specs.LowerCounts.{heaviest}
use Rattle.bounds_text.proofs.Keeping.{runs-keep-all}
use Rattle.bounds_text.proofs.KeptCounts.{at_most_greatest, none_heavier, none_ends_heavier, none_longer, none_below, sums_within}

-- ---- ticks

module _ (config : Config) (app : App) (events : List Stamped) (weighed : AreWithinWeights config app events) where
  short_ticks : (front rest : List Stamped) (s end : System) → events ≡ front ++ rest → AreStepsTo config app front (opening config app) s → AreStepsTo config app rest s end
      → AllByRecursion (IsShortTick config) rest
  short_ticks front [] s end is led leads = tt
  short_ticks front (e ∷ rest) s end is led leads = (
    (λ c ticks.
        let span = weighed front rest e s is led in
        let weight = ap (stretch_counts config app s) ticks in
        omega (arith, span, weight)),
    short_ticks (front ++ e ∷ []) rest leads.0 end (is ∙ sym (append_assoc front (e ∷ []) rest))
        (leads-append config app front (e ∷ []) (opening config app) s leads.0 led (leads.0, leads.1, refl)) leads.2,
  )

pub runs-keep-ticks : (config : Config) (app : App) → RunsKeepTicks config app
runs-keep-ticks config app image arrivals n sound weighed come =
    let run = sound.each arrivals n come in
    let events = events_of image arrivals n in
    short_ticks config app events (weighed.each arrivals n come) [] events (opening config app) run.osek.0 refl refl
    (follows_leads config app [] (opening config app) events run.osek.0 run.osek.1)

-- ---- the latency

-- no entry is shorter
long_entry : (extended : Bool) (words : ℕ) → 74 ≤ entry_path extended false words
long_entry false words = omega arith
long_entry true words = omega arith

module _ (config : Config) (app : App) (weights : List BodyWeights) where
  pub entries : (t : ℕ) → t < length config.tasks → enter_counts config app false t ≤ running_counts config app (heaviest_ending weights)
  entries t there =
      let le = at_most_greatest (length config.tasks) (λ u. enter_counts config app false u) t there in
      omega (arith, le)

  pub ticks : (c : ℕ) → c < length config.counters → tick_path config c ≤ running_counts config app (heaviest_ending weights)
  ticks c there =
      let le = at_most_greatest (length config.counters) (λ d. tick_path config d) c there in
      omega (arith, le)

  pub items : (f i : ℕ) → ending_weight weights f i ≤ running_counts config app (heaviest_ending weights)
  items f i = let le = none_ends_heavier weights f i in omega (arith, le)

  long : (h : ℕ) → h < length config.tasks → 74 ≤ running_counts config app (heaviest_ending weights)
  long h there =
      let le = entries h there in
      let entry = long_entry (declaration config h).extended (function app (body_of app.funcs h)).frame_words in
      omega (arith, le, entry)

  -- what lower tasks take
  takes : (table : List (List Sum)) (h counts : ℕ) → h < length config.tasks → AreAllSums config app weights table → lower_sum config weights table h ≡ sum.Counts counts
      → TakesWithin config app weights h (taken_counts (any_below (length config.tasks) (is_below config.tasks (task_at config.tasks h).priority)) (heaviest_ending weights) counts)
      ⊎ (NoneIsLower config h × (taken_counts (any_below (length config.tasks) (is_below config.tasks (task_at config.tasks h).priority)) (heaviest_ending weights) counts ≡ 0))
  takes table h counts there are told = by (cases_Bool (any_below (length config.tasks) (is_below config.tasks (task_at config.tasks h).priority)))
    where
      by : (any_below (length config.tasks) (is_below config.tasks (task_at config.tasks h).priority) ≡ true)
          ⊎ (any_below (length config.tasks) (is_below config.tasks (task_at config.tasks h).priority) ≡ false)
          → TakesWithin config app weights h (taken_counts (any_below (length config.tasks) (is_below config.tasks (task_at config.tasks h).priority)) (heaviest_ending weights) counts)
          ⊎ (NoneIsLower config h × (taken_counts (any_below (length config.tasks) (is_below config.tasks (task_at config.tasks h).priority)) (heaviest_ending weights) counts ≡ 0))
      by (inl some) =
          let sums = sums_within config app weights (get_or table h []) h counts (are.each h there) some told in
          let all = ap (λ b. cond b (max counts (heaviest_ending weights)) 0) some in
          let sum_is = sums.2 in
          inl
          (record {
            heaviest = heaviest weights;
            most = sums.0;
            items = none_heavier weights;
            none_above = sums.1;
            sum = omega (arith, all, sum_is);
            leaves = λ f i. let le = none_ends_heavier weights f i in omega (arith, le, all);
          })
      by (inr none) = inr (none_below config h none, ap (λ b. cond b (max counts (heaviest_ending weights)) 0) none)

pub runs-keep-latency : (config : Config) (app : App) (lengths : List (List ℕ)) (weights : List BodyWeights) (table : List (List Sum)) (highest : Option ℕ) → WellFormed config app
    → AreLengths app lengths → AreCountsBy app lengths weights → AreAllSums config app weights table → IsHighestTask config highest
    → RunsKeepLatency config app lengths weights table highest
runs-keep-latency config app lengths weights table None code lens counts are is = tt
runs-keep-latency config app lengths weights table (Some h) code lens counts are is =
    λ image arrivals n sound pace weighed come limit told before behind made found s events_are leads makes admits ended many.
    let run = sound.each arrivals n come in
    let items_short = short app (config, code.in_range) lengths lens in
    let keeps = (pace.paced lengths lens).each arrivals n (longest_item lengths) come (none_longer lengths) in
    let weighs = counts_weigh app lengths lens items_short weights counts in
    let ends = counts_end app lengths weights counts in
    let enough = long config app weights h is.0 in
    let stretches : AreStretchesWithin config app (running_counts config app (heaviest_ending weights)) =
    stretches_within config app (length_of lengths) weights weighs ends (facts config app code) (running_counts config app (heaviest_ending weights)) (entries config app weights)
    (ticks config app weights) (items config app weights) (omega (arith, enough)) in
    enters_by_weights config app (length_of lengths) (longest_item lengths) n weights arrivals (events_of image arrivals n) code run.osek run.in_time keeps (weighed.each arrivals n come)
    weighs ends before behind made h (running_counts config app (heaviest_ending weights))
    (taken_counts (any_below (length config.tasks) (is_below config.tasks (task_at config.tasks h).priority)) (heaviest_ending weights) limit) (enter_counts config app false h)
    found s events_are leads makes admits is.1 ended (omega (arith, enough)) stretches (takes config app weights table h limit is.0 are told) (omega arith, omega arith) many

pub has_latency : (config : Config) (app : App) (bounds : List Bound) (lengths : List (List ℕ)) (weights : List BodyWeights) (table : List (List Sum)) (highest : Option ℕ)
    (text : List ℕ) → WellFormed config app → AreToldBounds config app bounds → AreLengths app lengths → AreCountsBy app lengths weights → AreAllSums config app weights table
    → IsHighestTask config highest
    → text ≡ (bound_lines config.tasks bounds (length config.tasks) ++ tick_lines config (length config.counters)) ++ last_line config app lengths weights table highest
    → HasLatency config app text
has_latency config app bounds lengths weights table highest text code are lens counts sums is lines = record {
  bounds = bounds;
  are_bounds = are;
  lengths = lengths;
  are_lengths = lens;
  weights = weights;
  are_counts = counts;
  table = table;
  are_sums = sums;
  highest = highest;
  is_highest = is;
  lines = lines;
  kept = runs-keep-all config app bounds code are;
  ticks = runs-keep-ticks config app;
  in_time = runs-keep-latency config app lengths weights table highest code lens counts sums is;
}
