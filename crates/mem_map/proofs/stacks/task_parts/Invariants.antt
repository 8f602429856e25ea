use Rattle.mem_map.specs.Stacks.{AreStacksBefore}
use Rattle.mem_map.proofs.stacks.task_parts.Given as goal

abbrev pub invariant-loop-task : goal.invariant-loop-task
invariant-loop-task l = AreStacksBefore l.tasks l.all l.offsets l.task l.stacks.items l.tops.items
