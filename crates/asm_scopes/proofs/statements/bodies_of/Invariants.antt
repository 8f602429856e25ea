use Rattle.std.proofs.Common.{◌≡◌, ◌++◌, ◌+◌, drop}
use Rattle.asm_scopes.specs.Bodies.{bodies_from}
use Rattle.asm_scopes.proofs.statements.bodies_of.Given as goal

abbrev pub invariant-loop-n : goal.invariant-loop-n
invariant-loop-n l = l.bodies.items ++ bodies_from (l.n + 1) (drop l.n l.lines) ≡ bodies_from 1 l.lines
