use Rattle.std.proofs.Common.{◌≡◌, ◌+◌, ◌-◌, ◌≤◌, ℕ, ◌<◌}
use Rattle.run_windows.specs.Costs.{greatest_sum}
use Rattle.run_windows.specs.Windows.{none_made, numbers_of}
use Rattle.run_windows.specs.Settling.{AreBelow, slack}
use Rattle.run_windows.specs.Cycles.{AreRates}
use Rattle.run_windows.proofs.responses.settle.Given as goal

abbrev pub invariant-loop-made : goal.invariant-loop-made
invariant-loop-made l = (k : ℕ) → k < l.made-index → numbers_of l.numbers k ≡ none_made

abbrev pub invariant-loop-numbers : goal.invariant-loop-numbers
invariant-loop-numbers l = record {
  below : AreBelow l.costs l.window l.numbers l.counts;
  within : l.counts ≤ l.limit;
  rates : AreRates l.costs l.window l.rates;
}

abbrev pub decreases-loop-numbers : goal.decreases-loop-numbers
decreases-loop-numbers l = slack l.numbers + (greatest_sum - l.counts)
