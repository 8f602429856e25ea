use Rattle.std.proofs.Common.{◌+◌, ◌*◌, length}
use Rattle.task_verify.specs.Ways.{unmarked_count}
use Rattle.holds_infer.specs.Spread.{marks, AreSpreading}
use Rattle.holds_infer.proofs.body_ways.spread.Given as goal

abbrev pub invariant-loop-from : goal.invariant-loop-from
invariant-loop-from l = AreSpreading l.func l.lists l.pending.items

abbrev pub decreases-loop-from : goal.decreases-loop-from
decreases-loop-from l = 2 * unmarked_count (marks l.lists) + length l.pending.items
