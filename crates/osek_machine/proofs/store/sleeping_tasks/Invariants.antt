use Rattle.std.proofs.Common.{◌≡◌, map, take}
use Rattle.osek_scheduler.specs.State.{sleeping_task}
use Rattle.osek_machine.proofs.store.sleeping_tasks.Given as goal

abbrev pub invariant-loop-task : goal.invariant-loop-task
invariant-loop-task l = l.tasks.items ≡ map (λ _. sleeping_task) (take l._task-index l.config.tasks)
