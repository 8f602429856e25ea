use Rattle.std.proofs.Common.{◌≡◌, ◌+◌, ◌*◌, ◌≤◌, drop}
use Rattle.code_lengths.specs.CodeLengths.{lines_length}
use Rattle.code_lengths.proofs.lengths.lines_length.Given as goal

abbrev pub invariant-loop-task : goal.invariant-loop-task
invariant-loop-task l = (l.total + lines_length (drop l.task-index l.tasks) ≡ lines_length l.tasks) × (l.total ≤ 4 * l.task-index)
