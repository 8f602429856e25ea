use Rattle.std.proofs.Common.{ℕ, List, [], ◌∷◌, ◌++◌, ◌∙◌, ap}
use Rattle.sloth_base.specs.declared.config.TaskDecl.{TaskDecl}
use Rattle.sloth_base.proofs.Mapping.{lent_more, lent_all}
use Rattle.sloth_base.proofs.config.task_names.Goals as goal

pub loop-task-preserved : goal.loop-task-preserved
loop-task-preserved c =
    lent_more TaskDecl (List ℕ) (λ x. x.name) c.args.config.now.tasks c.items-task-items.result.now c.loop-task.task-index c.task-item.result c.loop-task.names.items
    c.push.new.list.items c.items-task-items.ensures c.loop-task-test.true c.task-item.is (c.in_ok-push.ensures ∙ ap (λ (name : List ℕ). c.loop-task.names.items ++ name ∷ []) (c.in_ok-new.ensures ∙ c.bytes.ensures)) c.loop-task.invariant

pub returns : goal.returns
returns c =
    c.from_vec.ensures
    ∙ lent_all TaskDecl (List ℕ) (λ x. x.name) c.args.config.now.tasks c.items-task-items.result.now c.loop-task.task-index c.loop-task.names.items c.items-task-items.ensures
    c.loop-task-test.false c.loop-task.invariant
