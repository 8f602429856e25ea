use Rattle.std.proofs.Common.{⊎_elim, arith}
use Rattle.std.proofs.lemmas.Bool.{cases_lt}
use Rattle.std.proofs.lemmas.List.{get_or_past}
use Rattle.run_costs.proofs.rounds.some_top.Goals as goal

pub returns : goal.returns
returns c = λ e t.
    let over = c.loop-task-test.false in
    ⊎_elim (λ lt. c.loop-task.invariant t lt) (λ le. get_or_past c.args.tops.now t 0 (omega (arith, over, le))) (cases_lt t c.loop-task.task)
