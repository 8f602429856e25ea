use Rattle.std.proofs.Common.{◌≡◌, drop, map, max}
use Rattle.osek_scheduler.specs.Priority.{greatest}
use Rattle.osek_scheduler.proofs.ceilings.highest.Given as goal

abbrev pub invariant-loop-task : goal.invariant-loop-task
invariant-loop-task l = max l.top (greatest (map (λ d. d.priority) (drop l.task-index l.task-items))) ≡ greatest (map (λ d. d.priority) l.task-items)
