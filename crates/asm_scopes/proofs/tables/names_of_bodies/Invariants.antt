use Rattle.std.proofs.Common.{◌≡◌, take, map}
use Rattle.std.specs.Prelude.{filter}
use Rattle.asm_scopes.specs.Bodies.{is_body_of, body_name}
use Rattle.asm_scopes.proofs.tables.names_of_bodies.Given as goal

abbrev pub invariant-loop-body : goal.invariant-loop-body
invariant-loop-body l = l.names ≡ map body_name (filter (is_body_of l.of_tasks) (take l.body-index l.bodies))
