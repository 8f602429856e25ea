use Rattle.std.proofs.Common.{◌≡◌, ◌++◌, ◌-◌}
use Rattle.masked_code.specs.Pieces.{clearing_code}
use Rattle.masked_code.proofs.emit.clear.Given as goal

abbrev pub invariant-loop-number : goal.invariant-loop-number
invariant-loop-number l = l.code.items ++ clearing_code (l.end - l.number) l.number ≡ l.initial.code.items ++ clearing_code (l.end - l.first) l.first
