use Rattle.std.proofs.Common.{◌≡◌, take}
use Rattle.asm_scopes.specs.Bodies.{function_names}
use Rattle.asm_scopes.proofs.tables.function_names.Given as goal

abbrev pub invariant-loop-body : goal.invariant-loop-body
invariant-loop-body l = l.names ≡ function_names (take l.body-index l.bodies)
