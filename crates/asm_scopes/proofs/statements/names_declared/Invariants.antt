use Rattle.std.proofs.Common.{◌≡◌, take, map}
use Rattle.std.specs.Prelude.{filter}
use Rattle.asm_scopes.specs.Statements.{declares, name_of}
use Rattle.asm_scopes.proofs.statements.names_declared.Given as goal

abbrev pub invariant-loop-line : goal.invariant-loop-line
invariant-loop-line l = l.names ≡ map name_of (filter (declares l.kind) (take l.line-index l.lines))
