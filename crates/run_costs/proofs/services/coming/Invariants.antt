use Rattle.std.proofs.Common.{◌≡◌, length}
use Rattle.run_costs.specs.Coming.{AreInAll, unmarked}
use Rattle.run_costs.proofs.services.coming.Given as goal

abbrev pub invariant-loop-makers : goal.invariant-loop-makers
invariant-loop-makers l = record {
  count : length l.marks.items ≡ length l.walks.config.tasks;
  within : AreInAll l.walks.config l.walks.app l.load l.marks.items;
}

abbrev pub decreases-loop-makers : goal.decreases-loop-makers
decreases-loop-makers l = unmarked l.marks.items
