-- The longest item, and the longest stretch.
use Rattle.std.proofs.Common.{ℕ, List, ap, arith}
use Rattle.sloth_base.specs.declared.config.Config.{Config}
use Rattle.sloth_base.specs.declared.app.App.{App}
use Rattle.code_rules.specs.WellFormed.{WellFormed}
use Rattle.osek_scheduler.proofs.Facts.{facts}
use Rattle.bound_rules.specs.declared.bound.BodyWeights.{BodyWeights}
use Rattle.sim_induction.specs.Items.{length_of, AreLengths}
use Rattle.sim_induction.proofs.BodyLengths.{short}
use Rattle.run_counts.specs.Counts.{AreCounts}
use Rattle.run_counts.proofs.Counted.{counts_weigh, counts_end}
use Rattle.run_counts.proofs.Stretches.{stretches_within}
use Rattle.bounds_text.proofs.KeptCounts.{none_longer}
use Rattle.bounds_text.proofs.KeptLatency.{entries, ticks, items}
use Rattle.bounds_text.proofs.OneLatency.{same-lengths}
use Rattle.response_laws.specs.SoundRuns.{IsLongestItem, NoStretchIsAbove}
use Rattle.run_costs.specs.RunRecord.{longest_of, late_of}

pub longest_is : (app : App) (lengths : List (List ℕ)) → AreLengths app lengths → IsLongestItem app (longest_of lengths)
longest_is app lengths are = record {
  some = omega arith;
  none_longer = λ other are_other f i.
      let le = none_longer lengths f i in
      let e = ap (λ (l : List (List ℕ)). length_of l f i) (same-lengths app other lengths are_other are) in
      omega (arith, le, e);
}

pub late_is : (config : Config) (app : App) (weights : List BodyWeights) → WellFormed config app → AreCounts app weights → NoStretchIsAbove config app (late_of config app weights)
late_is config app weights code (lengths, are, by) =
    let items_short = short app (config, code.in_range) lengths are in
    record {
      stretches = stretches_within config app (length_of lengths) weights (counts_weigh app lengths are items_short weights by) (counts_end app lengths weights by) (facts config app code)
          (late_of config app weights)
          (λ t there. let le = entries config app weights t there in omega (arith, le))
          (λ n there. let le = ticks config app weights n there in omega (arith, le))
          (λ f i. let le = items config app weights f i in omega (arith, le))
          (omega arith);
      boots = omega arith;
    }
