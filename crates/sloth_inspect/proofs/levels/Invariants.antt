use Rattle.std.proofs.Common.{◌≡◌}
use Rattle.sloth_inspect.specs.States.{levels_in}
use Rattle.sloth_inspect.proofs.levels.Given as goal

abbrev pub invariant-loop-task : goal.invariant-loop-task
invariant-loop-task l = l.levels ≡ levels_in l.fn.bus l.task
