use Rattle.std.proofs.Common.{◌≡◌, take, map}
use Rattle.sloth_base.specs.declared.config.TaskDecl.{TaskDecl}
use Rattle.asm_scopes.proofs.tables.task_names.Given as goal

abbrev pub invariant-loop-task : goal.invariant-loop-task
invariant-loop-task l = l.names ≡ map (λ (x : TaskDecl). x.name) (take l.task-index l.task-items)
