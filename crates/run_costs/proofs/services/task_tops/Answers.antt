use Rattle.std.proofs.Common.{List, arith, length, sym, subst, ℕ, ◌<◌, ◌≤◌, ap, get_or, ◌∙◌}
use Rattle.walk_sums.proofs.Bodily.{facts_of}
use Rattle.run_costs.proofs.Serving.{task_top}
use Rattle.sloth_base.specs.Named.{body_of}
use Rattle.run_costs.specs.Tops.{IsTop, AreTaskTops}
use Rattle.run_costs.proofs.Growing.{each_more, each_of}
use Rattle.run_costs.proofs.services.task_tops.Goals as goal

pub loop-task-preserved : goal.loop-task-preserved
loop-task-preserved c =
    let w = c.args.walks.now in
    let task = c.loop-task.task in
    let table = c.in_ok-table.table.items in
    let inside = subst (λ (n : ℕ). task < n) c.tasks-task-end.ensures.is c.loop-task-test.true in
    let is = c.numbered_top.ensures ∙ ap (λ (l : List ℕ). get_or l c.body.result 0) c.deref.ensures.value ∙ ap (λ (n : ℕ). get_or table n 0) c.body.ensures.is in
    each_more ℕ (λ t top. IsTop w.config w.app c.args.counted (body_of w.app.funcs t) top) c.loop-task.tops.items c.push.new.list.items c.numbered_top.result 0 task
    c.loop-task.invariant c.in_ok-push.ensures
    (task_top w.config w.app (facts_of w.config w.app c.tasks-task-end.ensures.well_formed) task inside c.args.counted table c.numbered_top.result c.in_ok-table.ensures is)

pub returns : goal.returns
returns c =
    let over = subst (λ (n : ℕ). n ≤ c.loop-task.task) c.tasks-task-end.ensures.is c.loop-task-test.false in
    let most = subst (λ (n : ℕ). c.loop-task.task ≤ n) c.tasks-task-end.ensures.is c.loop-task.auto.task-end in
    let are = each_of (ℕ) (λ t top. IsTop c.args.walks.now.config c.args.walks.now.app c.args.counted (body_of c.args.walks.now.app.funcs t) top) c.loop-task.tops.items (0) c.loop-task.task (length c.args.walks.now.config.tasks) (omega (arith, over, most)) c.loop-task.invariant in
    subst (AreTaskTops c.args.walks.now.config c.args.walks.now.app c.args.counted) (sym c.from_vec.ensures) (record { count = are.count; each = are.each })
