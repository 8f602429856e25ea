use Rattle.std.proofs.Common.{◌≡◌, take}
use Rattle.holds_infer.proofs.body_ways.resources.Given as goal

abbrev pub invariant-loop-resource : goal.invariant-loop-resource
invariant-loop-resource l = l.list.items ≡ take l.resource-index l.held
