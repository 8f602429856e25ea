use Rattle.std.proofs.Common.{◌≡◌, length}
use Rattle.run_costs.specs.Coming.{AreInAll, HasMarked}
use Rattle.run_costs.proofs.services.pass.Given as goal

abbrev pub invariant-loop-task : goal.invariant-loop-task
invariant-loop-task l = record {
  count : length l.marks ≡ length l.walks.config.tasks;
  within : AreInAll l.walks.config l.walks.app l.makers.load.now l.marks;
  marked : HasMarked l.walks.config l.walks.app l.makers.load.now l.initial.marks l.marks l.task l.grown;
}
