use Rattle.walk_sums.specs.declared.sections.Sum.{Sum}
use Rattle.walk_sums.specs.Sections.{IsSumFor, no_sum}
use Rattle.call_graph.proofs.Growing.{held_more}
use Rattle.walk_sums.proofs.walks.Walks.sums_above.Goals as goal

pub loop-task-preserved : goal.loop-task-preserved
loop-task-preserved c =
    let w = c.args.self.now in
    let g =
    held_more Sum (IsSumFor w.config w.app c.args.weights.now c.args.above) c.loop-task.sums.items c.push.new.list.items c.sum_for_task-sum.result no_sum c.loop-task.task
    c.loop-task.invariant.count c.loop-task.invariant.each c.in_ok-push.ensures c.sum_for_task-sum.ensures in
    record { count = g.count; each = g.each }
