use Rattle.std.proofs.Common.{◌≡◌, ℕ, ◌<◌, length, get_or}
use Rattle.sloth_base.specs.Named.{function}
use Rattle.bound_rules.specs.Weights.{no_weights}
use Rattle.run_counts.specs.Counts.{AreBodyCounts}
use Rattle.run_counts.proofs.weights.weights_by.Given as goal

abbrev pub invariant-loop-number : goal.invariant-loop-number
invariant-loop-number l = record {
  count : length l.weights.items ≡ l.number;
  each : (f : ℕ) → f < l.number → AreBodyCounts l.lengths.bodies f (function l.app f) (get_or l.weights.items f no_weights);
}
