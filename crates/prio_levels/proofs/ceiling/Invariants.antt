use Rattle.std.proofs.Common.{◌≡◌, ◌≤◌, take}
use Rattle.prio_levels.specs.Levels.{lists}
use Rattle.sloth_base.specs.PriorityLevels.{level_among}
use Rattle.sloth_base.specs.Limits.{task_limit}
use Rattle.prio_levels.proofs.Greatest.{greatest_from}
use Rattle.prio_levels.proofs.ceiling.Given as goal

abbrev pub invariant-loop-task : goal.invariant-loop-task
invariant-loop-task l = record { so_far : l.greatest ≡ greatest_from (lists l.resource) (λ t. level_among l.tasks t.priority) 0 (take l.task-index l.tasks); few : l.greatest ≤ task_limit }
