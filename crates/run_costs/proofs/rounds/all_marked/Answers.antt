use Rattle.std.proofs.Common.{arith}
use Rattle.run_costs.proofs.rounds.all_marked.Goals as goal

pub returns : goal.returns
returns c = λ e t lt. let over = c.loop-task-test.false in c.loop-task.invariant t (omega (arith, over, lt))
