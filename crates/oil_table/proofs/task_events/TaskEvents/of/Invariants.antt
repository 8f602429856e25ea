use Rattle.std.proofs.Common.{◌≡◌, take}
use Rattle.oil_table.proofs.task_events.TaskEvents.of.Given as goal

abbrev pub invariant-loop-number : goal.invariant-loop-number
invariant-loop-number l = l.tasks ≡ take l.number l.objects
