use Rattle.std.proofs.Common.{◌≡◌, ◌∙◌, ◌≤◌, ℕ, Bool, List, length, get_or, ap, subst, arith}
use Rattle.call_graph.proofs.Growing.{held_more}
use Rattle.load_text.specs.Loads.{work}
use Rattle.walk_sums.specs.declared.sections.RoundSums.{RoundSums}
use Rattle.run_costs.specs.CostsOf.{AreEach}
use Rattle.run_costs.specs.Makings.{AreRoundSums}
use Rattle.run_costs.specs.Tables.{no_sums}
use Rattle.response_text.specs.declared.part_lines.Bounded.{Bounded}
use Rattle.response_text.specs.PartNames.{unbounded, bounded_by}
use Rattle.response_text.proofs.part_names.bounded.Goals as goal

pub bounded_task-own-requires-clause-inside : goal.bounded_task-own-requires-clause-inside
bounded_task-own-requires-clause-inside c =
    let lt = c.loop-task-test.true in
    let tasks = c.tasks-task-end.ensures.is in
    let count = c.in_ok-sums.ensures.count in
    let same : length c.deref-in-loop-task.result.now ≡ length c.in_ok-sums.sums.items = ap length c.deref-in-loop-task.ensures.value in
    omega (arith, lt, tasks, count, same)

pub bounded_task-own-requires-clause-few : goal.bounded_task-own-requires-clause-few
bounded_task-own-requires-clause-few c =
    let lt = c.loop-task-test.true in
    let tasks = c.tasks-task-end.ensures.is in
    let few = c.tasks-task-end.ensures.well_formed.in_range.configuration.few_tasks in
    omega (arith, lt, tasks, few)

pub loop-task-preserved : goal.loop-task-preserved
loop-task-preserved c =
    let sums = c.in_ok-sums.sums.items in
    let is : c.bounded_task-own.result ≡ bounded_by (work c.args.load.now c.loop-task.task) (get_or sums c.loop-task.task no_sums) =
    c.bounded_task-own.ensures ∙ ap (λ (l : List RoundSums). bounded_by (work c.args.load.now c.loop-task.task) (get_or l c.loop-task.task no_sums)) c.deref-in-loop-task.ensures.value in
    let held = held_more Bounded (λ t b. b ≡ bounded_by (work c.args.load.now t) (get_or sums t no_sums)) c.loop-task.all.items c.push.new.list.items
    c.bounded_task-own.result unbounded c.loop-task.task c.loop-task.invariant.count c.loop-task.invariant.each c.in_ok-push.ensures is in
    record { count = held.count; each = held.each }

pub returns : goal.returns
returns c =
    let w = c.args.walks.now in
    let weights = c.args.weights.now in
    let sums = c.in_ok-sums.sums.items in
    let over = subst (λ (n : ℕ). n ≤ c.loop-task.task) c.tasks-task-end.ensures.is c.loop-task-test.false in
    let most = subst (λ (n : ℕ). c.loop-task.task ≤ n) c.tasks-task-end.ensures.is c.loop-task.auto.task-end in
    let same : c.loop-task.task ≡ length w.config.tasks = omega (arith, over, most) in
    record {
      clean = c.in_ok-clean.clean.items;
      are_clean = c.in_ok-clean.ensures.exact;
      sums = sums;
      are_sums = subst (λ (l : List Bool). AreRoundSums w.config w.app l weights sums) c.deref.ensures.value c.in_ok-sums.ensures;
      each = subst (λ n. AreEach n unbounded (λ t b. b ≡ bounded_by (work c.args.load.now t) (get_or sums t no_sums)) c.loop-task.all.items) same c.loop-task.invariant;
    }
