use Rattle.std.proofs.Common.{◌≡◌, ◌++◌, ◌-◌}
use Rattle.masked_code.specs.Pieces.{restoring_code}
use Rattle.masked_code.proofs.emit.restore.Given as goal

abbrev pub invariant-loop-number : goal.invariant-loop-number
invariant-loop-number l = l.code.items ++ restoring_code (l.end - l.number) l.number l.base ≡ l.initial.code.items ++ restoring_code (l.end - l.first) l.first l.base
