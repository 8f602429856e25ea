use Rattle.std.proofs.Common.{◌≡◌, drop}
use Rattle.asm_scopes.specs.Scopes.{any_unknown}
use Rattle.asm_scopes.proofs.scope.Scope.any_unknown.Given as goal

abbrev pub invariant-loop-place : goal.invariant-loop-place
invariant-loop-place l = any_unknown l.self l.labels l.mnemonic l.place (drop l.place l.operands) ≡ any_unknown l.self l.labels l.mnemonic 0 l.operands
