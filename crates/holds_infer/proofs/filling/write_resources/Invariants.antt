use Rattle.std.proofs.Common.{◌≡◌, ◌++◌, take, codes}
use Rattle.std.specs.List.{flat_map}
use Rattle.holds_infer.specs.LabelLines.{resource_names}
use Rattle.holds_infer.proofs.filling.write_resources.Given as goal

abbrev pub invariant-loop-resource : goal.invariant-loop-resource
invariant-loop-resource l = l.out.items ≡ l.fn.out.items ++ flat_map (λ name. codes ", " ++ name) (resource_names l.config (take l.resource-index l.holds))
