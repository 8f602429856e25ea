use Rattle.std.proofs.Common.{◌≡◌, ◌+◌, ◌*◌, ◌≤◌, drop}
use Rattle.code_lengths.specs.CodeLengths.{alarms_length, tick_length}
use Rattle.code_lengths.proofs.lengths.tick_length.Given as goal

abbrev pub invariant-loop-i : goal.invariant-loop-i
invariant-loop-i l = (l.total + alarms_length l.counter (drop l.i l.alarms) ≡ tick_length l.counter l.alarms) × (l.total ≤ 11 + 34 * l.i)
