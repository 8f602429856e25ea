use Rattle.std.proofs.Common.{◌≡◌, ◌∙◌, ◌&&◌, Bool, ℕ, List, false, None, get_or, length, rules, ap, subst}
use Rattle.bound_rules.specs.declared.bound.BodyWeights.{BodyWeights}
use Rattle.walk_sums.specs.declared.levels.Kind.TheVariants as kinds
use Rattle.walk_sums.specs.declared.counted.Counted.TheVariants as counts
use Rattle.walk_sums.specs.Counted.{counted_weights}
use Rattle.walk_sums.specs.Known.{AreSums}
use Rattle.call_graph.proofs.Growing.{grown}
use Rattle.walk_sums.specs.Clears.{clears_it, AreAlsoClearing}
use Rattle.walk_sums.proofs.CleanTasks.{bit_more}
use Rattle.walk_sums.proofs.walks.Walks.next_bit.Goals as goal

pub loop-task-preserved : goal.loop-task-preserved
loop-task-preserved c =
    let w = c.args.self.now in
    let g = grown Bool c.loop-task.both.items c.push.new.list.items _ false c.loop-task.task
    (λ t. get_or c.args.marks.now t false && clears_it w.app.funcs c.in_ok-table.table.items t)
    c.loop-task.invariant.count c.loop-task.invariant.exact c.in_ok-push.ensures (search rules) in
    record { count = g.count; exact = g.exact }

pub returns : goal.returns
returns c =
    let w = c.args.self.now in
    let table = c.in_ok-table.table.items in
    let marks = c.args.marks.now in
    let both = c.loop-task.both.items in
    let all : c.loop-task.task ≡ length w.config.tasks = search rules in
    let also = subst (λ (n : ℕ). AreAlsoClearing w.app.funcs n table marks both) all c.loop-task.invariant in
    let bits = c.bit_mask-events.result in
    let are =
    subst (λ (l : List BodyWeights). AreSums w.config w.app l (kinds.Uncleared bits) None table)
    (c.deref.ensures.value ∙ c.in_ok-weights.ensures.is ∙ ap (counted_weights (counts.Waits bits)) c.app.ensures.is) c.in_ok-table.ensures in
    bit_more w.config w.app c.tasks-task-end.ensures.well_formed c.args.bit bits table marks both c.bit_mask-events.ensures are c.requires.marks also.count also.exact
