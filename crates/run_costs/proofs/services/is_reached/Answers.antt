use Rattle.std.proofs.Common.{◌<◌, ◌≤◌, true, false, refl, sym, ◌∙◌, subst, arith, ℕ}
use Rattle.std.proofs.lemmas.Bool.{true≢false}
use Rattle.walk_sums.proofs.Bodily.{facts_of}
use Rattle.run_costs.proofs.Closing.{some_decided}
use Rattle.run_costs.proofs.services.is_reached.Goals as goal

pub returns-then-comes_and_reaches : goal.returns-then-comes_and_reaches
returns-then-comes_and_reaches c =
    let w = c.args.walks.now in
    let inside = subst (λ (n : ℕ). c.loop-task.task < n) c.tasks-task-end.ensures.is c.loop-task-test.true in
    some_decided w.config w.app (facts_of w.config w.app c.tasks-task-end.ensures.well_formed) c.args.marks.now c.args.tops.now c.args.counted c.requires
    true (λ _. (c.loop-task.task, inside, sym c.comes_and_reaches.ensures ∙ c.if-comes_and_reaches.true)) (λ k lt e. refl)

pub returns : goal.returns
returns c =
    let w = c.args.walks.now in
    let over = subst (λ (n : ℕ). n ≤ c.loop-task.task) c.tasks-task-end.ensures.is c.loop-task-test.false in
    some_decided w.config w.app (facts_of w.config w.app c.tasks-task-end.ensures.well_formed) c.args.marks.now c.args.tops.now c.args.counted c.requires
    false (λ e. absurd (true≢false (sym e))) (λ k lt e. absurd (true≢false (sym e ∙ c.loop-task.invariant k (omega (arith, over, lt)))))
