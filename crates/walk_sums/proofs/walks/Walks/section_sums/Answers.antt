use Rattle.std.proofs.Common.{List, [], sym, subst}
use Rattle.walk_sums.specs.declared.sections.Sum.{Sum}
use Rattle.walk_sums.specs.Sections.{AreToldSums}
use Rattle.call_graph.proofs.Growing.{held_more}
use Rattle.walk_sums.proofs.walks.Walks.section_sums.Goals as goal

pub loop-task-preserved : goal.loop-task-preserved
loop-task-preserved c =
    let w = c.args.self.now in
    let here = subst (AreToldSums w.config w.app c.args.weights.now c.loop-task.task) (sym c.from_vec.ensures) c.in_ok-sums.ensures in
    let g =
    held_more (List Sum) (AreToldSums w.config w.app c.args.weights.now) c.loop-task.table.items c.push.new.list.items c.from_vec.result [] c.loop-task.task
    c.loop-task.invariant.count c.loop-task.invariant.each c.in_ok-push.ensures here in
    record { count = g.count; each = g.each }
