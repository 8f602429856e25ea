use Rattle.walk_sums.specs.Clears.{AreAlsoClearing}
use Rattle.walk_sums.proofs.walks.Walks.next_bit.Given as goal

abbrev pub invariant-loop-task : goal.invariant-loop-task
invariant-loop-task l = AreAlsoClearing l.self.app.funcs l.task l.table.items l.marks l.both.items
