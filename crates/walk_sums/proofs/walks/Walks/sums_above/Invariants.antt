use Rattle.std.proofs.Common.{◌≡◌, ℕ, ◌<◌, length, get_or}
use Rattle.walk_sums.specs.Sections.{IsSumFor, no_sum}
use Rattle.walk_sums.proofs.walks.Walks.sums_above.Given as goal

abbrev pub invariant-loop-task : goal.invariant-loop-task
invariant-loop-task l = record {
  count : length l.sums.items ≡ l.task;
  each : (k : ℕ) → k < l.task → IsSumFor l.self.config l.self.app l.weights l.above k (get_or l.sums.items k no_sum);
}
