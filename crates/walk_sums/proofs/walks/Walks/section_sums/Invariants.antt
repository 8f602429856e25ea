use Rattle.std.proofs.Common.{◌≡◌, ℕ, ◌<◌, [], length, get_or}
use Rattle.walk_sums.specs.Sections.{AreToldSums}
use Rattle.walk_sums.proofs.walks.Walks.section_sums.Given as goal

abbrev pub invariant-loop-task : goal.invariant-loop-task
invariant-loop-task l = record {
  count : length l.table.items ≡ l.task;
  each : (h : ℕ) → h < l.task → AreToldSums l.self.config l.self.app l.weights h (get_or l.table.items h []);
}
