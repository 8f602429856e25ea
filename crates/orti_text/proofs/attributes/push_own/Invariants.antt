use Rattle.std.proofs.Common.{◌≡◌, ◌++◌, drop, map}
use Rattle.std.specs.Prelude.{codes, filter}
use Rattle.sloth_base.specs.declared.config.TaskDecl.{TaskDecl}
use Rattle.orti_text.proofs.attributes.push_own.Given as goal

abbrev pub invariant-loop-task : goal.invariant-loop-task
invariant-loop-task l = l.names.items ++ map (λ (d : TaskDecl). codes "stack_" ++ d.name) (filter (λ (d : TaskDecl). d.extended) (drop l.task-index l.tasks))
    ≡ l.fn.names.items ++ map (λ (d : TaskDecl). codes "stack_" ++ d.name) (filter (λ (d : TaskDecl). d.extended) l.tasks)
