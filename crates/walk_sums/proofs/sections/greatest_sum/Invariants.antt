use Rattle.std.proofs.Common.{◌≡◌}
use Rattle.walk_sums.specs.Sections.{greatest_of}
use Rattle.walk_sums.proofs.sections.greatest_sum.Given as goal

abbrev pub invariant-loop-task : goal.invariant-loop-task
invariant-loop-task l = l.greatest ≡ greatest_of l.sums l.task
