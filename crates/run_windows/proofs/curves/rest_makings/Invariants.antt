use Rattle.std.proofs.Common.{◌≡◌, ◌+◌, ◌≤◌, drop}
use Rattle.run_windows.specs.Costs.{greatest_sum, capped}
use Rattle.run_windows.specs.Windows.{numbers_of, round_makings}
use Rattle.run_windows.specs.Cycles.{rest}
use Rattle.run_windows.proofs.curves.rest_makings.Given as goal

abbrev pub invariant-loop-k : goal.invariant-loop-k
invariant-loop-k l = record {
  within : l.total ≤ greatest_sum;
  is : capped (l.total + round_makings l.sets (rest (numbers_of l.marks) (numbers_of l.numbers)) l.k (drop l.k l.makers)) ≡ capped (round_makings l.sets (rest (numbers_of l.marks) (numbers_of l.numbers)) 0 l.makers);
}
