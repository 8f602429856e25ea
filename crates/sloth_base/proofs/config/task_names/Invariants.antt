use Rattle.std.proofs.Common.{◌≡◌, ◌++◌, drop}
use Rattle.std.specs.Prelude.{map}
use Rattle.sloth_base.proofs.config.task_names.Given as goal

abbrev pub invariant-loop-task : goal.invariant-loop-task
invariant-loop-task l = l.names.items ++ map (λ d. d.name) (drop l.task-index l.config.tasks) ≡ map (λ d. d.name) l.config.tasks
