use Rattle.std.proofs.Common.{ℕ, ◌≤◌, subst, arith}
use Rattle.run_costs.proofs.sections.some_asked.Goals as goal

pub returns : goal.returns
returns c = λ e k lt.
    let over = subst (λ (n : ℕ). n ≤ c.loop-task.task) c.tasks-task-end.ensures.is c.loop-task-test.false in
    c.loop-task.invariant k (omega (arith, over, lt))
