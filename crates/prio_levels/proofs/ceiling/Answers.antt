use Rattle.std.proofs.Common.{◌≡◌, ◌∙◌, ◌≤◌, ℕ, Bool, true, false, cond, ap, sym, arith}
use Rattle.std.specs.Prelude.{max}
use Rattle.std.proofs.lemmas.Grind.{common_steps}
use Rattle.prio_levels.specs.Levels.{lists}
use Rattle.sloth_base.specs.PriorityLevels.{level_among}
use Rattle.sloth_base.specs.Limits.{task_limit}
use Rattle.prio_levels.proofs.Greatest.{greatest_more}
use Rattle.prio_levels.proofs.ceiling.Goals as goal

few : (b : Bool) (n m o : ℕ) → n ≤ task_limit → m ≤ task_limit → o ≡ cond b (max n m) n → o ≤ task_limit
few true n m o h k e = omega (arith, e)
few false n m o h k e = omega (arith, e)

pub loop-task-preserved : goal.loop-task-preserved
loop-task-preserved c =
    let tasks = c.args.tasks.now in
    let k = c.loop-task.invariant in
    let x = c.task-item.result in
    let level : c.level-level.result ≡ level_among tasks x.priority = c.level-level.ensures.level in
    let more = greatest_more (lists c.args.resource) (λ t. level_among tasks t.priority) tasks c.loop-task.task-index x c.loop-task-test.true c.task-item.is in
    record {
      so_far = c.raised-greatest.ensures
          ∙ ap (λ (b : Bool). cond b (max c.loop-task.greatest c.level-level.result) c.loop-task.greatest) c.lists_resource.ensures
          ∙ ap (λ (n : ℕ). cond (lists c.args.resource x) (max c.loop-task.greatest n) c.loop-task.greatest) level
          ∙ ap (λ (n : ℕ). cond (lists c.args.resource x) (max n (level_among tasks x.priority)) n) k.so_far
          ∙ sym more;
      few = few c.lists_resource.result c.loop-task.greatest c.level-level.result c.raised-greatest.result k.few (let l = c.level-level.ensures.few in let r = c.requires in omega (arith, l, r)) c.raised-greatest.ensures;
    }

pub returns : goal.returns
returns c = grind (arith, common_steps)
