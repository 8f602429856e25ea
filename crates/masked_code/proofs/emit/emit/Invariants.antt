use Rattle.std.proofs.Common.{◌≡◌, ◌++◌, drop}
use Rattle.masked_code.proofs.emit.emit.Given as goal

abbrev pub invariant-loop-kind : goal.invariant-loop-kind
invariant-loop-kind l = l.code.items ++ drop l.kind-index l.kinds ≡ l.initial.code.items ++ l.kinds
