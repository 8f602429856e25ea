use Rattle.std.proofs.Common.{◌≡◌, ◌∙◌, Bool, ℕ, List, false, None, length, rules, ap, subst}
use Rattle.bound_rules.specs.declared.bound.BodyWeights.{BodyWeights}
use Rattle.walk_sums.specs.declared.levels.Kind.TheVariants as kinds
use Rattle.walk_sums.specs.declared.counted.Counted.TheVariants as counts
use Rattle.walk_sums.specs.Counted.{counted_weights}
use Rattle.walk_sums.specs.Known.{AreSums}
use Rattle.call_graph.proofs.Growing.{grown}
use Rattle.walk_sums.specs.Clears.{is_steady, AreSteadyMarks}
use Rattle.walk_sums.proofs.SteadyTasks.{marks_decide}
use Rattle.walk_sums.proofs.walks.Walks.steady_tasks.Goals as goal

pub loop-task-preserved : goal.loop-task-preserved
loop-task-preserved c =
    let w = c.args.self.now in
    let g = grown Bool c.loop-task.steady.items c.push.new.list.items _ false c.loop-task.task (is_steady w.config.tasks w.app.funcs c.in_ok-table.table.items)
    c.loop-task.invariant.marked c.loop-task.invariant.exact c.in_ok-push.ensures (search rules) in
    record { marked = g.count; exact = g.exact }

pub returns : goal.returns
returns c =
    let w = c.args.self.now in
    let all : c.loop-task.task ≡ length w.config.tasks = search rules in
    let are =
    subst (λ (l : List BodyWeights). AreSums w.config w.app l kinds.Turns None c.in_ok-table.table.items)
    (c.deref.ensures.value ∙ c.in_ok-weights.ensures.is ∙ ap (counted_weights counts.Schedules) c.app.ensures.is) c.in_ok-table.ensures in
    marks_decide w.config w.app c.tasks-task-end.ensures.well_formed c.in_ok-table.table.items are c.loop-task.steady.items
    (subst (λ (n : ℕ). AreSteadyMarks w.config.tasks w.app.funcs n c.in_ok-table.table.items c.loop-task.steady.items) all c.loop-task.invariant)
