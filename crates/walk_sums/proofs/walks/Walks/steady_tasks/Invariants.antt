use Rattle.walk_sums.specs.Clears.{AreSteadyMarks}
use Rattle.walk_sums.proofs.walks.Walks.steady_tasks.Given as goal

abbrev pub invariant-loop-task : goal.invariant-loop-task
invariant-loop-task l = AreSteadyMarks l.self.config.tasks l.self.app.funcs l.task l.table.items l.steady.items
