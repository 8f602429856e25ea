use Rattle.std.proofs.Common.{◌≡◌, ◌++◌, drop, map}
use Rattle.asm_parse.specs.Apps.{func_of}
use Rattle.asm_parse.proofs.apps.functions.Given as goal

abbrev pub invariant-loop-body : goal.invariant-loop-body
invariant-loop-body l = l.funcs.items ++ map (func_of l.config l.scope) (drop l.body-index l.bodies) ≡ map (func_of l.config l.scope) l.bodies
