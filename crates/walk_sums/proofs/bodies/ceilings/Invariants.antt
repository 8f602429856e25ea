use Rattle.std.proofs.Common.{◌≡◌, ℕ, ◌<◌, length, get_or}
use Rattle.osek_scheduler.specs.Priority.{ceiling}
use Rattle.walk_sums.proofs.bodies.ceilings.Given as goal

abbrev pub invariant-loop-resource : goal.invariant-loop-resource
invariant-loop-resource l = record {
  count : length l.table.items ≡ l.resource;
  exact : (r : ℕ) → r < l.resource → get_or l.table.items r 0 ≡ ceiling l.config r;
}
