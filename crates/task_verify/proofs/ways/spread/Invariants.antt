use Rattle.std.proofs.Common.{◌+◌, ◌*◌, length}
use Rattle.task_verify.specs.Ways.{IsMarking, unmarked_count}
use Rattle.task_verify.proofs.ways.spread.Given as goal

abbrev pub invariant-loop-from : goal.invariant-loop-from
invariant-loop-from l = IsMarking l.func l.marks l.pending.items

abbrev pub decreases-loop-from : goal.decreases-loop-from
decreases-loop-from l = 2 * unmarked_count l.marks + length l.pending.items
