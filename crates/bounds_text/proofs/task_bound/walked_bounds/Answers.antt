use Rattle.std.proofs.Common.{List, sym, ◌∙◌, subst}
use Rattle.sloth_base.specs.declared.app.App.{App}
use Rattle.bound_rules.specs.declared.bound.Bound.{Bound}
use Rattle.bound_rules.specs.declared.bound.Bound.TheVariants as bound
use Rattle.bound_rules.specs.declared.bound.BodyWeights.{BodyWeights}
use Rattle.walk_sums.specs.declared.sections.Sum.{Sum}
use Rattle.walk_sums.specs.Sections.{AreToldSums}
use Rattle.walk_sums.specs.Weights.{AreWeights, item_weights}
use Rattle.bounds_text.specs.Bounds.{IsTold}
use Rattle.call_graph.proofs.Growing.{held_more}
use Rattle.bounds_text.proofs.task_bound.walked_bounds.Goals as goal

pub sums_above-requires-clause-weights : goal.sums_above-requires-clause-weights
sums_above-requires-clause-weights c =
    subst (AreWeights c.args.walks.now.app) (sym c.deref.ensures.value)
    (subst (λ (a : App). AreWeights a c.in_ok-weights.weights.items) c.app.ensures.is c.in_ok-weights.ensures.fit)

pub task_bound-requires-clause-sums : goal.task_bound-requires-clause-sums
task_bound-requires-clause-sums c =
    let w = c.args.walks.now in
    let h = c.loop-task.task in
    let sums = c.in_ok-sums.sums.items in
    subst (AreToldSums w.config w.app (item_weights w.app) h) (sym c.deref-in-loop-task.ensures.value)
    (subst (λ (a : App). AreToldSums w.config w.app (item_weights a) h sums) c.app.ensures.is
    (subst (λ (l : List BodyWeights). AreToldSums w.config w.app l h sums) (c.deref.ensures.value ∙ c.in_ok-weights.ensures.is) c.in_ok-sums.ensures))

pub loop-task-preserved : goal.loop-task-preserved
loop-task-preserved c =
    let w = c.args.walks.now in
    let g =
    held_more Bound (IsTold w.config w.app) c.loop-task.bounds.items c.push.new.list.items c.task_bound.result bound.Endless c.loop-task.task
    c.loop-task.invariant.count c.loop-task.invariant.each c.in_ok-push.ensures c.task_bound.ensures in
    record { count = g.count; each = g.each }
