use Rattle.std.proofs.Common.{◌≡◌, drop, map, max}
use Rattle.osek_scheduler.specs.Priority.{greatest, ceiling}
use Rattle.walk_sums.proofs.bodies.greatest_ceiling.Given as goal

abbrev pub invariant-loop-resource : goal.invariant-loop-resource
invariant-loop-resource l = max l.top (greatest (map (ceiling l.config) (drop l.resource-index l.held))) ≡ greatest (map (ceiling l.config) l.held)
