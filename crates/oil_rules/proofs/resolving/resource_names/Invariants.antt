use Rattle.std.proofs.Common.{◌≡◌, ◌++◌, drop}
use Rattle.oil_rules.specs.Configs.{resource_names}
use Rattle.oil_rules.proofs.resolving.resource_names.Given as goal

abbrev pub invariant-loop-object : goal.invariant-loop-object
invariant-loop-object l = l.names.items ++ resource_names (drop l.object-index l.objects) ≡ resource_names l.objects
