use Rattle.std.proofs.Common.{◌≡◌, take}
use Rattle.oil_table.specs.Objects.{names_of}
use Rattle.oil_table.proofs.uses.names_of.Given as goal

abbrev pub invariant-loop-object : goal.invariant-loop-object
invariant-loop-object l = l.names ≡ names_of l.kind (take l.object-index l.objects)
