use Rattle.std.proofs.Common.{◌≡◌, take}
use Rattle.oil_rules.specs.Configs.{resources_of}
use Rattle.oil_rules.proofs.resolving.listed_resources.Given as goal

abbrev pub invariant-loop-attr : goal.invariant-loop-attr
invariant-loop-attr l = l.listed.items ≡ resources_of l.names (take l.attr-index l.attrs)
