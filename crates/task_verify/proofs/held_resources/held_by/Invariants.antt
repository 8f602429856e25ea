use Rattle.std.proofs.Common.{◌≡◌, take}
use Rattle.task_verify.proofs.held_resources.held_by.Given as goal

abbrev pub invariant-loop-resource : goal.invariant-loop-resource
invariant-loop-resource l = l.held.items ≡ take l.resource-index l.holds
