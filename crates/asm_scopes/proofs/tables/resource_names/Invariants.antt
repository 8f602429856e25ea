use Rattle.std.proofs.Common.{◌≡◌, take}
use Rattle.asm_scopes.proofs.tables.resource_names.Given as goal

abbrev pub invariant-loop-resource : goal.invariant-loop-resource
invariant-loop-resource l = l.names ≡ take l.resource-index l.resource-items
