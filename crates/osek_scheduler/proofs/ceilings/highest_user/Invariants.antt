use Rattle.std.proofs.Common.{◌≡◌, drop, map, max}
use Rattle.std.specs.Prelude.{filter}
use Rattle.osek_scheduler.specs.Priority.{greatest}
use Rattle.code_rules.specs.Code.{is_in}
use Rattle.osek_scheduler.proofs.ceilings.highest_user.Given as goal

abbrev pub invariant-loop-task : goal.invariant-loop-task
invariant-loop-task l =
    max l.top (greatest (map (λ d. d.priority) (filter (λ d. is_in l.resource d.resources) (drop l.task-index l.task-items))))
    ≡ greatest (map (λ d. d.priority) (filter (λ d. is_in l.resource d.resources) l.task-items))
