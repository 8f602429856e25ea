use Rattle.std.proofs.Common.{◌≡◌}
use Rattle.sloth_inspect.specs.States.{pending_lines_in}
use Rattle.sloth_inspect.proofs.pending.Given as goal

abbrev pub invariant-loop-task : goal.invariant-loop-task
invariant-loop-task l = l.pending ≡ pending_lines_in l.fn.bus l.task
